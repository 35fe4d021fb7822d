-- The promise of each public function of this crate settles its outcome (`Settled` of the model). Assumes nothing.
use mathlib.Core.Path.{refl}
use Rattle.model.specs.Settled.{Settled}
use Rattle.model.proofs.Laws.Settling.{value_settles}
use Rattle.gate.proofs.bytes.byte_at
use Rattle.gate.proofs.bytes.word_of
use Rattle.gate.proofs.frame.judge
use Rattle.gate.proofs.frame.smp_judge_frame
use Rattle.gate.proofs.numbers.house_number
use Rattle.gate.proofs.numbers.result_code
use Rattle.gate.proofs.zone.smp_row_reaches

pub byte_at_settled : Settled byte_at.Kinds.ps byte_at.Kinds.r byte_at.Reads.Pre byte_at.Reads.Post
byte_at_settled = value_settles _ _ _ (λ κs a x y. refl)

pub word_of_settled : Settled word_of.Kinds.ps word_of.Kinds.r word_of.Reads.Pre word_of.Reads.Post
word_of_settled = value_settles _ _ _ (λ κs a x y. refl)

pub judge_settled : Settled judge.Kinds.ps judge.Kinds.r judge.Reads.Pre judge.Reads.Post
judge_settled = value_settles _ _ _ (λ κs a x y. refl)

pub smp_judge_frame_settled : Settled smp_judge_frame.Kinds.ps smp_judge_frame.Kinds.r smp_judge_frame.Reads.Pre smp_judge_frame.Reads.Post
smp_judge_frame_settled = value_settles _ _ _ (λ κs a x y. refl)

pub house_number_settled : Settled house_number.Kinds.ps house_number.Kinds.r house_number.Reads.Pre house_number.Reads.Post
house_number_settled = value_settles _ _ _ (λ κs a x y. refl)

pub result_code_settled : Settled result_code.Kinds.ps result_code.Kinds.r result_code.Reads.Pre result_code.Reads.Post
result_code_settled = value_settles _ _ _ (λ κs a x y. refl)

pub smp_row_reaches_settled : Settled smp_row_reaches.Kinds.ps smp_row_reaches.Kinds.r smp_row_reaches.Reads.Pre smp_row_reaches.Reads.Post
smp_row_reaches_settled = value_settles _ _ _ (λ κs a x y. refl)
