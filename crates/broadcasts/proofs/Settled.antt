-- The promise of each public function of this crate settles its outcome (`Settled` of the model). Assumes nothing.
use mathlib.Core.Path.{sym, ap, ◌∙◌}
use Rattle.model.specs.Settled.{Settled}
use Rattle.broadcasts.proofs.report_broadcast

pub report_broadcast_settled : Settled report_broadcast.Kinds.ps report_broadcast.Kinds.r report_broadcast.Reads.Pre report_broadcast.Reads.Post
report_broadcast_settled = record {
  asks_nothing = λ κs a. tt;
  same_result = λ κs a x y. x.promised.0 ∙ sym y.promised.0;
  same_lent = λ κs a x y. ap (λ out. (tt, (tt, (tt, (out, tt))))) (x.promised.1 ∙ sym y.promised.1);
}
