-- The promise of each public function of this crate settles its outcome (`Settled` of the model). Assumes nothing.
use mathlib.Core.Path.{sym, ap, ◌∙◌}
use Rattle.model.specs.Settled.{Settled}
use Rattle.peaks.proofs.report_phy_event_list

pub report_phy_event_list_settled : Settled report_phy_event_list.Kinds.ps report_phy_event_list.Kinds.r report_phy_event_list.Reads.Pre
    report_phy_event_list.Reads.Post
report_phy_event_list_settled = record {
  asks_nothing = λ κs a. tt;
  same_result = λ κs a x y. x.promised.0 ∙ sym y.promised.0;
  same_lent = λ κs a x y. ap (λ out. (tt, (tt, (out, tt)))) (x.promised.1 ∙ sym y.promised.1);
}
