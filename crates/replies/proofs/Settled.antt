-- The promise of each public function of this crate settles its outcome (`Settled` of the model). Assumes nothing.
use mathlib.Core.Path.{refl, sym, ap, ◌∙◌}
use Rattle.model.specs.Settled.{Settled}
use Rattle.model.proofs.Laws.Settling.{value_settles}
use Rattle.replies.proofs.fixed.failed
use Rattle.replies.proofs.fixed.report_general
use Rattle.replies.proofs.fixed.report_manufacturer
use Rattle.replies.proofs.fixed.report_phy_error_log
use Rattle.replies.proofs.fixed.report_phy_event
use Rattle.replies.proofs.fixed.broadcast_descriptor
use Rattle.replies.proofs.fixed.entry_descriptor
use Rattle.replies.proofs.sending.send_result
use Rattle.replies.proofs.wire.two

pub failed_settled : Settled failed.Kinds.ps failed.Kinds.r failed.Reads.Pre failed.Reads.Post
failed_settled = value_settles _ _ _ (λ κs a x y. refl)

pub report_general_settled : Settled report_general.Kinds.ps report_general.Kinds.r report_general.Reads.Pre report_general.Reads.Post
report_general_settled = value_settles _ _ _ (λ κs a x y. refl)

pub report_manufacturer_settled : Settled report_manufacturer.Kinds.ps report_manufacturer.Kinds.r report_manufacturer.Reads.Pre report_manufacturer.Reads.Post
report_manufacturer_settled = value_settles _ _ _ (λ κs a x y. refl)

pub report_phy_error_log_settled : Settled report_phy_error_log.Kinds.ps report_phy_error_log.Kinds.r report_phy_error_log.Reads.Pre report_phy_error_log.Reads.Post
report_phy_error_log_settled = value_settles _ _ _ (λ κs a x y. refl)

pub report_phy_event_settled : Settled report_phy_event.Kinds.ps report_phy_event.Kinds.r report_phy_event.Reads.Pre report_phy_event.Reads.Post
report_phy_event_settled = value_settles _ _ _ (λ κs a x y. refl)

pub broadcast_descriptor_settled : Settled broadcast_descriptor.Kinds.ps broadcast_descriptor.Kinds.r broadcast_descriptor.Reads.Pre broadcast_descriptor.Reads.Post
broadcast_descriptor_settled = value_settles _ _ _ (λ κs a x y. refl)

pub entry_descriptor_settled : Settled entry_descriptor.Kinds.ps entry_descriptor.Kinds.r entry_descriptor.Reads.Pre entry_descriptor.Reads.Post
entry_descriptor_settled = value_settles _ _ _ (λ κs a x y. refl)

pub send_result_settled : Settled send_result.Kinds.ps send_result.Kinds.r send_result.Reads.Pre send_result.Reads.Post
send_result_settled = record {
  asks_nothing = λ κs a. tt;
  same_result = λ κs a x y. x.promised.0 ∙ sym y.promised.0;
  same_lent = λ κs a x y. ap (λ out. (tt, (tt, (out, tt)))) (x.promised.1 ∙ sym y.promised.1);
}

pub two_settled : Settled two.Kinds.ps two.Kinds.r two.Reads.Pre two.Reads.Post
two_settled = value_settles _ _ _ (λ κs a x y. refl)
