-- The set of phys that are reached, one phy after another: with what phy p adds to it, it is the set of one phy more. Assumes nothing.
use Prim.Native.Nat.{ℕ, ◌+◌, ◌<◌, ◌^◌}
use native.Mathlib.Numerals.{add-one}
use mathlib.Core.Path.{◌≡◌}
use mathlib.Core.Bool.{Bool, cond}
use borrow.Author.Tests.{lt-ltb}
use lib.Dec.{ltb}
use Rattle.model.specs.Tests.{sum_below}
use Rattle.model.proofs.Laws.Bits.{powers}

pub bit_added : (p : ℕ) (reached : ℕ → Bool) {set bit : ℕ} → p < 24 → set ≡ powers p reached
    → bit ≡ cond (ltb p 24) (cond (reached p) (2 ^ p) 0) 0 → set + bit ≡ powers (p + 1) reached
unfolding sum_below
bit_added p reached below is_set is_bit = rw (is_set, is_bit, lt-ltb p 24 below, add-one)
