-- `server::effects::carry_out_write` meets its contract, by the law of `Carrying`. Assumes nothing.
use Rattle.std.proofs.Common.{arith, refl}
use Rattle.server.proofs.Carrying.{typed, stored_carried}
use Rattle.server.proofs.effects.carry_out_write.Goals as goal

pub returns : goal.returns
returns c =
    let a = c.args in
    stored_carried a.words.now a.phy (λ _. a.done) refl refl c.changes_after-count.ensures (omega arith) (omega arith)
    (typed a.done (omega arith) c.store_if.ensures.narrow c.store_if-2.ensures.narrow c.store_if-3.ensures.narrow c.store_if-4.ensures.narrow)
    c.store_if.ensures.kept
    c.store_if-2.ensures.kept
    c.store_if-3.ensures.kept
    c.store_if-4.ensures.kept
    (rw c.into.ensures at c.put.ensures)
