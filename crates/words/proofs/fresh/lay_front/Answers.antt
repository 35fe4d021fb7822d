-- `words::fresh::lay_front` meets its contract: two runs of words, one behind the other. Assumes nothing.
use Rattle.std.proofs.Common.{arith}
use Rattle.words.proofs.Whole.{front_stored}
use Rattle.words.proofs.fresh.lay_front.Goals as goal

pub returns : goal.returns
returns c =
    let a = c.args in
    front_stored a.words.now a.device a.table (omega arith) (omega arith) (omega arith) c.store.ensures c.store-2.ensures
