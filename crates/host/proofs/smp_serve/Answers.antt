-- `host::smp_serve` meets its contract: what the server answers, coded. Assumes nothing.
use Rattle.host.proofs.Coding.{answer_fits}
use Rattle.host.proofs.smp_serve.Goals as goal

pub answer_told-requires : goal.answer_told-requires
answer_told-requires c = rw c.serve.ensures.told (answer_fits _ _ _ _)
