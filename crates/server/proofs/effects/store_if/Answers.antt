-- `server::effects::store_if` meets its contract: where there is no monitor nothing is stored, and the words stay. Assumes nothing.
use Rattle.std.proofs.Common.{arith, sym}
use Rattle.server.specs.Stored.{if_there}
use Rattle.words.proofs.Laying.{laid_same}
use Rattle.server.proofs.effects.store_if.Goals as goal

pub returns-in_default-clause-kept : goal.returns-in_default-clause-kept
unfolding if_there
returns-in_default-clause-kept c = rw c.in_default.is (sym (laid_same c.args.words.now (omega arith)))
