-- What each function here asks and promises is what the function of `gate` asks and promises that has its name. Assumes nothing.
use Rattle.std.specs.Prelude.{◌≡◌, refl}
use Rattle.gate.proofs.frame.smp_judge_frame as judge_of_gate
use Rattle.gate.proofs.zone.smp_row_reaches as row_test_of_gate
use Rattle.gate_c.proofs.smp_judge_frame
use Rattle.gate_c.proofs.smp_row_reaches

pub judge_frame_asks : smp_judge_frame.Reads.Pre ≡ judge_of_gate.Reads.Pre
judge_frame_asks = refl

pub judge_frame_promises : smp_judge_frame.Reads.Post ≡ judge_of_gate.Reads.Post
judge_frame_promises = refl

pub row_reaches_asks : smp_row_reaches.Reads.Pre ≡ row_test_of_gate.Reads.Pre
row_reaches_asks = refl

pub row_reaches_promises : smp_row_reaches.Reads.Post ≡ row_test_of_gate.Reads.Post
row_reaches_promises = refl
