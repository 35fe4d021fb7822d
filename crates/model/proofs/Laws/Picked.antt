-- The numbers below n that pass a test, written out: each of them and no other, in rising order, and how many they are. Assumes nothing.
use Prim.Native.Nat.{ℕ, zero, suc, ◌+◌, ◌<◌}
use native.Mathlib.Omega.{arith}
use mathlib.Core.Path.{◌≡◌, refl, subst⁻¹}
use mathlib.Core.Logic.{◌↔◌}
use mathlib.Core.Bool.{Bool, true, false, cond}
use mathlib.Core.List.Memᴰ
use mathlib.Core.List.{List, [], ◌∷◌, Memᴰ}
use lib.Dec.{T}
use lib.ListN.{length, length-append}
use Rattle.model.specs.Tests.{sum_below, join_below}
use Rattle.model.proofs.Laws.Bits.{tally}
use Rattle.model.proofs.Laws.Join.{join_has, has_join, join_rising}
use Rattle.model.proofs.Laws.Rising.{Rising, rising_one}
use Rattle.model.proofs.Laws.Tests.{cond_both}

-- something, or nothing, by a test
abbrev pub only_if {ℓ} : {A : Type ℓ} → Bool → List A → List A
only_if b xs = cond b xs []

abbrev pub picked : ℕ → (ℕ → Bool) → List ℕ
picked n test = join_below n (λ p. only_if (test p) (p ∷ []))

pub only_if_iff : {A : Type 0} (b : Bool) (xs : List A) {a : A}
    → Memᴰ a (only_if b xs)
    ↔ (T b × Memᴰ a xs)
only_if_iff true xs = (λ m. (tt, m), λ h. h.1)
only_if_iff false xs = (λ m. absurd (Memᴰ.not-nil m), λ h. absurd h.0)

-- two that are the same where the test holds are the same
pub only_if_same : {A : Type 0} (b : Bool) (xs ys : List A) → (b ≡ true → xs ≡ ys) → only_if b xs ≡ only_if b ys
only_if_same true xs ys same = same refl
only_if_same false xs ys same = refl

pub picked_iff : (n : ℕ) (test : ℕ → Bool) (p : ℕ) → Memᴰ p (picked n test) ↔ ((p < n) × T (test p))
picked_iff n test p = (
  λ m.
      let (q, h, there) = join_has n (λ k. only_if (test k) (k ∷ [])) m in
      let (t, one) = (only_if_iff (test q) (q ∷ [])).0 there in
      let e : p ≡ q = Memᴰ.eq_of_singleton one in
      (omega arith, subst⁻¹ (λ (k : ℕ). T (test k)) e t),
  λ h.
      has_join n (λ k. only_if (test k) (k ∷ [])) p h.0 ((only_if_iff (test p) (p ∷ [])).1 (h.1, Memᴰ.head refl)),
)

pub picked_rising : (n : ℕ) (test : ℕ → Bool) → Rising (λ p. p) (picked n test)
picked_rising n test =
    join_rising (λ p. p) (λ p. only_if (test p) (p ∷ [])) (λ p. p)
    (λ p. omega arith)
    n
    (λ p x h m.
    let e : x ≡ p = Memᴰ.eq_of_singleton ((only_if_iff (test p) (p ∷ [])).0 m).1 in
    (omega arith, omega arith))
    (λ p. cond_both (Rising (λ q. q)) (test p) (p ∷ []) [] (rising_one (λ q. q) p) tt)

pub picked_length : (n : ℕ) (test : ℕ → Bool) → length (picked n test) ≡ tally n test
unfolding join_below sum_below
picked_length zero test = refl
picked_length (suc n) test = simp length-append (go (test n) (picked_length n test))
  where
    go : (b : Bool) → length (picked n test) ≡ tally n test
        → length (picked n test) + length (only_if b (n ∷ [])) ≡ tally n test + cond b 1 0
    go true e = omega arith
    go false e = omega arith
