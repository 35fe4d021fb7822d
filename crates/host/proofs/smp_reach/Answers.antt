-- `host::smp_reach` meets its contract: what the server answers, coded. Assumes nothing.
use Rattle.host.proofs.Coding.{reach_fits}
use Rattle.host.proofs.smp_reach.Goals as goal

pub reach_told-requires : goal.reach_told-requires
reach_told-requires c = rw c.reach_query.ensures (reach_fits _ _)
