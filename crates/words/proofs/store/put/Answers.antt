-- `words::store::put` meets its contract: the change count, and, where the phy has its place, its words. Assumes nothing.
use Rattle.std.proofs.Common.{refl, arith, ◌∙◌}
use Rattle.words.proofs.Laying.{put_stored, laid_past}
use Rattle.words.proofs.store.put.Goals as goal
use Rattle.words.proofs.store.put.Goals.{then-p-lt24, else-p-lt24}

pub returns : goal.returns
returns c =
    let a = c.args in
    elim c.if-p-lt24.branch [
      | then-p-lt24 w ↦
          put_stored a.words.now (omega arith) a.p a.numbers a.changes w.if-p-lt24.true (w.words-is ∙ w.store_phy.ensures) c.set_low16.ensures
      | else-p-lt24 w ↦
          rw (c.set_low16.ensures, w.words-is, laid_past a.words.now (omega arith) a.p a.numbers a.changes w.if-p-lt24.false) refl
    ]
