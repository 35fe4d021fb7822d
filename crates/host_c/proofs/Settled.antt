-- The promise of each public function of this crate settles its outcome (`Settled` of the model). Assumes nothing.
use mathlib.Core.Path.{refl, sym, ap, ◌∙◌}
use Rattle.model.specs.Settled.{Settled}
use Rattle.model.proofs.Laws.Settling.{value_settles}
use Rattle.host_c.proofs.smp_start
use Rattle.host_c.proofs.smp_serve
use Rattle.host_c.proofs.smp_event
use Rattle.host_c.proofs.smp_link_change
use Rattle.host_c.proofs.smp_notice
use Rattle.host_c.proofs.smp_reach

pub smp_start_settled : Settled smp_start.Kinds.ps smp_start.Kinds.r smp_start.Reads.Pre smp_start.Reads.Post
smp_start_settled = record {
  asks_nothing = λ κs a. tt;
  same_result = λ κs a x y. x.promised.0 ∙ sym y.promised.0;
  same_lent = λ κs a x y. ap (λ shelf. (shelf, (tt, (tt, (tt, (tt, tt)))))) (x.promised.1 ∙ sym y.promised.1);
}

pub smp_serve_settled : Settled smp_serve.Kinds.ps smp_serve.Kinds.r smp_serve.Reads.Pre smp_serve.Reads.Post
smp_serve_settled = record {
  asks_nothing = λ κs a. tt;
  same_result = λ κs a x y. x.promised.0 ∙ sym y.promised.0;
  same_lent = λ κs a x y.
      ap (λ shelf. (shelf, (tt, (tt, (x.lent.1.1.1.0, tt))))) (x.promised.1.0 ∙ sym y.promised.1.0)
      ∙ ap (λ out. (y.lent.0, (tt, (tt, (out, tt))))) (x.promised.1.1 ∙ sym y.promised.1.1);
}

pub smp_event_settled : Settled smp_event.Kinds.ps smp_event.Kinds.r smp_event.Reads.Pre smp_event.Reads.Post
smp_event_settled = record {
  asks_nothing = λ κs a. tt;
  same_result = λ κs a x y. x.promised.0 ∙ sym y.promised.0;
  same_lent = λ κs a x y. ap (λ shelf. (shelf, (tt, (tt, (tt, tt))))) (x.promised.1 ∙ sym y.promised.1);
}

pub smp_link_change_settled : Settled smp_link_change.Kinds.ps smp_link_change.Kinds.r smp_link_change.Reads.Pre smp_link_change.Reads.Post
smp_link_change_settled = record {
  asks_nothing = λ κs a. tt;
  same_result = λ κs a x y. x.promised.0 ∙ sym y.promised.0;
  same_lent = λ κs a x y. ap (λ shelf. (shelf, (tt, tt))) (x.promised.1 ∙ sym y.promised.1);
}

pub smp_notice_settled : Settled smp_notice.Kinds.ps smp_notice.Kinds.r smp_notice.Reads.Pre smp_notice.Reads.Post
smp_notice_settled = record {
  asks_nothing = λ κs a. tt;
  same_result = λ κs a x y. x.promised.0 ∙ sym y.promised.0;
  same_lent = λ κs a x y. ap (λ shelf. (shelf, (tt, tt))) (x.promised.1 ∙ sym y.promised.1);
}

pub smp_reach_settled : Settled smp_reach.Kinds.ps smp_reach.Kinds.r smp_reach.Reads.Pre smp_reach.Reads.Post
smp_reach_settled = value_settles _ _ _ (λ κs a x y. refl)
