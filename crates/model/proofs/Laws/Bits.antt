-- A set as a number: the sum of 2 ^ p over the p below n that pass a test has exactly their bits, and as many ones. Assumes nothing.
use Prim.Native.Nat.{ℕ, zero, suc, ◌+◌, ◌-◌, ◌*◌, ◌/◌, ◌%◌, ◌^◌, ◌≤◌, ◌<◌}
use native.Mathlib.Nat.{pow-suc, zero-mul, one-mul, add_comm, div-eq_of_lt, sub-add_cancel}
use native.Mathlib.Nat.{not-suc-le-zero, lt_of_lt_of_le}
use native.Mathlib.Omega.{arith}
use mathlib.Core.Path.{◌≡◌, refl, sym, ap, ◌∙◌}
use mathlib.Core.Logic.{◌↔◌}
use mathlib.Core.Bool.{Bool, true, false, cond}
use borrow.Author.Tests.{ltb-true, ltb-false}
use lib.Count.{ones, ones_cat}
use lib.Dec.{T, ltb, eqb}
use lib.Pow.{pow_mono, high, low, field, mod-mod-pow}
use Rattle.model.specs.Tests.{sum_below}
use Rattle.model.specs.Zone.{bit}
use Rattle.model.proofs.Laws.Tests.{below_suc, cond_both}

abbrev pub powers : ℕ → (ℕ → Bool) → ℕ
powers n test = sum_below n (λ p. cond (test p) (2 ^ p) 0)

abbrev pub tally : ℕ → (ℕ → Bool) → ℕ
tally n test = sum_below n (λ p. cond (test p) 1 0)

-- the next power, or none, above what there is
above : (b : Bool) (n rest : ℕ) → rest + cond b (2 ^ n) 0 ≡ cond b 1 0 * 2 ^ n + rest
above true n rest = rw (one-mul) (add_comm rest (2 ^ n))
above false n rest = rw (zero-mul) (add_comm rest 0)

powers_suc : (n : ℕ) (test : ℕ → Bool) → powers (suc n) test ≡ cond (test n) 1 0 * 2 ^ n + powers n test
unfolding sum_below
powers_suc n test = above (test n) n (powers n test)

powers_lt : (n : ℕ) (test : ℕ → Bool) → powers n test < 2 ^ n
unfolding sum_below
powers_lt zero test = omega arith
powers_lt (suc n) test =
    let earlier : powers n test < 2 ^ n = powers_lt n test in
    cond_both (λ k. powers n test + k < 2 ^ suc n) (test n) (2 ^ n) 0 (rw pow-suc (omega arith)) (rw pow-suc (omega arith))

-- .. and so below any larger power
pub powers_fit : (k n : ℕ) (test : ℕ → Bool) → n ≤ k → powers n test < 2 ^ k
powers_fit k n test h = lt_of_lt_of_le (powers_lt n test) (pow_mono {j = k} h)

-- ---- how many

pub ones_powers : (n : ℕ) (test : ℕ → Bool) → ones (powers n test) ≡ tally n test
unfolding sum_below ones
ones_powers zero test = refl
ones_powers (suc n) test =
    ap ones (powers_suc n test)
    ∙ ones_cat n (cond (test n) 1 0) (powers n test) (powers_lt n test)
    ∙ count (test n) (ones_powers n test)
  where
    count : (b : Bool) → ones (powers n test) ≡ tally n test
        → ones (cond b 1 0) + ones (powers n test) ≡ tally n test + cond b 1 0
    count true e = omega arith
    count false e = omega arith

-- ---- which

-- bit p of a number is a digit of its remainder by 2 ^ (1 + p)
digit : (x p : ℕ) → x / 2 ^ p % 2 ≡ x % 2 ^ (1 + p) / 2 ^ p
digit x p = sym (field x 1 p)

-- and that remainder is all the same below 2 ^ k, where p < k
remainder : (hi lo k p : ℕ) → lo < 2 ^ k → p < k → (hi * 2 ^ k + lo) % 2 ^ (1 + p) ≡ lo % 2 ^ (1 + p)
remainder hi lo k p fits below =
    let j : k - (1 + p) + (1 + p) ≡ k = sub-add_cancel (omega arith) in
    sym (mod-mod-pow (hi * 2 ^ k + lo) (k - (1 + p)) (1 + p))
    ∙ ap (λ (n : ℕ). (hi * 2 ^ k + lo) % 2 ^ n % 2 ^ (1 + p)) j
    ∙ ap (λ (n : ℕ). n % 2 ^ (1 + p)) (low hi k fits)

bit_low : (hi lo k p : ℕ) → lo < 2 ^ k → p < k → bit (hi * 2 ^ k + lo) p ≡ bit lo p
bit_low hi lo k p fits below =
    ap (λ (n : ℕ). eqb n 1)
    (digit (hi * 2 ^ k + lo) p ∙ ap (λ (n : ℕ). n / 2 ^ p) (remainder hi lo k p fits below) ∙ sym (digit lo p))

bit_at : (b : Bool) (lo k : ℕ) → lo < 2 ^ k → bit (cond b 1 0 * 2 ^ k + lo) k ≡ b
bit_at true lo k fits = ap (λ (n : ℕ). eqb (n % 2) 1) (high 1 k fits)
bit_at false lo k fits = ap (λ (n : ℕ). eqb (n % 2) 1) (high 0 k fits)

bit_past : (x k : ℕ) → x < 2 ^ k → bit x k ≡ false
bit_past x k fits = ap (λ (n : ℕ). eqb (n % 2) 1) (div-eq_of_lt fits)

-- bit p, where p is below n, and where it is not
bit_powers : (n : ℕ) (test : ℕ → Bool) (p : ℕ) → p < n → bit (powers n test) p ≡ test p
bit_powers zero test p h = absurd (not-suc-le-zero h)
bit_powers (suc n) test p h =
    ap (λ (x : ℕ). bit x p) (powers_suc n test)
    ∙ below_suc (λ q. bit (cond (test n) 1 0 * 2 ^ n + powers n test) q ≡ test q) n
    (λ q l. bit_low (cond (test n) 1 0) (powers n test) n q (powers_lt n test) l ∙ bit_powers n test q l)
    (bit_at (test n) (powers n test) n (powers_lt n test))
    p
    h

bit_powers_past : (n : ℕ) (test : ℕ → Bool) (p : ℕ) → n ≤ p → bit (powers n test) p ≡ false
bit_powers_past n test p h = bit_past (powers n test) p (powers_fit p n test h)

pub bit_powers_iff : (n : ℕ) (test : ℕ → Bool) (p : ℕ) → T (bit (powers n test) p) ↔ (T (ltb p n) × T (test p))
bit_powers_iff n test p = go (ltb p n) refl
  where
    go : (b : Bool) → ltb p n ≡ b → T (bit (powers n test) p) ↔ (T b × T (test p))
    go true e = rw (bit_powers n test p (ltb-true p n e)) (λ t. (tt, t), λ h. h.1)
    go false e = rw (bit_powers_past n test p (ltb-false p n e)) (λ t. absurd t, λ h. h.0)
