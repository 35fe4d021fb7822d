-- `words::store::put_device` meets its contract: two words hold other counts. Assumes nothing.
use Rattle.std.proofs.Common.{◌≡◌, ℕ, refl, arith, get_or, set}
use lib.Seq.{get_or-set_other}
use Rattle.words.proofs.Laying.{laid_device}
use Rattle.words.proofs.store.put_device.Goals as goal

pub returns : goal.returns
returns c =
    let a = c.args in
    let kept : (n : ℕ) → get_or (set a.words.now 2 n) 3 0 ≡ get_or a.words.now 3 0 =
    λ n. get_or-set_other a.words.now 2 3 n 0 (λ e. omega arith) in
    simp (
      c.set_low16-2.ensures,
      c.set_low16.ensures,
      kept,
      laid_device a.words.now (omega arith) a.expander3 a.ses0,
    )
    refl
