-- The promise of each public function of this crate settles its outcome (`Settled` of the model). Assumes nothing.
use mathlib.Core.Path.{refl}
use Rattle.model.specs.Settled.{Settled}
use Rattle.model.proofs.Laws.Settling.{value_settles}
use Rattle.gate_c.proofs.smp_judge_frame
use Rattle.gate_c.proofs.smp_row_reaches

pub smp_judge_frame_settled : Settled smp_judge_frame.Kinds.ps smp_judge_frame.Kinds.r smp_judge_frame.Reads.Pre smp_judge_frame.Reads.Post
smp_judge_frame_settled = value_settles _ _ _ (λ κs a x y. refl)

pub smp_row_reaches_settled : Settled smp_row_reaches.Kinds.ps smp_row_reaches.Kinds.r smp_row_reaches.Reads.Pre smp_row_reaches.Reads.Post
smp_row_reaches_settled = value_settles _ _ _ (λ κs a x y. refl)
