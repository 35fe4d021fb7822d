-- What belongs to 0, then what belongs to 1, and so on: what is in such a list, where it stands, how long it is, and when it rises.
-- Assumes nothing.
use Prim.Native.Nat.{ℕ, zero, suc, ◌*◌, ◌≤◌, ◌<◌}
use native.Mathlib.Nat.{not-suc-le-zero, le_refl, le_trans, lt_of_lt_of_le}
use native.Mathlib.Decide.{le_ind}
use native.Mathlib.Omega.{arith}
use mathlib.Core.Path.{◌≡◌, refl, subst⁻¹, ◌∙◌}
use mathlib.Core.Logic.{⊎_elim}
use mathlib.Core.List.Memᴰ
use mathlib.Core.List.{List, [], ◌∷◌, ◌++◌, Memᴰ}
use lib.ListN.{length, get_or, length-append, get_or-append}
use lib.Seq.{get_or_at}
use Rattle.model.specs.Tests.{join_below}
use Rattle.model.proofs.Laws.Places.{All, all_append}
use Rattle.model.proofs.Laws.Rising.{Rising, rising_append}
use Rattle.model.proofs.Laws.Tests.{below_suc}

-- ---- one element to each number

pub join_length : {A : Type 0} (n : ℕ) (of : ℕ → A) → length (join_below n (λ p. of p ∷ [])) ≡ n
unfolding join_below
join_length zero of = refl
join_length (suc n) of = simp (length-append, join_length n of) (omega arith)

pub join_at : {A : Type 0} (n : ℕ) (of : ℕ → A) (d : A) (p : ℕ) → p < n
    → get_or (join_below n (λ q. of q ∷ [])) p d ≡ of p
unfolding join_below
join_at zero of d p h = absurd (not-suc-le-zero h)
join_at {A} (suc n) of d p h =
    let before : List A = join_below n (λ k. of k ∷ []) in
    below_suc (λ q. get_or (join_below n (λ k. of k ∷ []) ++ (of n ∷ [])) q d ≡ of q) n
    (λ q l.
    get_or-append before (of n ∷ []) d q (subst⁻¹ (λ (k : ℕ). q < k) (join_length n of) l) ∙ join_at n of d q l)
    (get_or_at before (of n) [] d n (join_length n of))
    p
    h

pub join_each : {A : Type 0} (P : A → Type 0) (n : ℕ) (of : ℕ → A) → ((p : ℕ) → P (of p)) → All P (join_below n (λ p. of p ∷ []))
unfolding join_below
join_each P zero of each = tt
join_each P (suc n) of each = all_append P (join_below n (λ p. of p ∷ [])) (of n ∷ []) (join_each P n of each) (each n, tt)

-- ---- at most k elements to each number

pub join_few : {A : Type 0} (n k : ℕ) (of : ℕ → List A) → ((p : ℕ) → length (of p) ≤ k)
    → length (join_below n of) ≤ n * k
unfolding join_below
join_few zero k of few = omega arith
join_few (suc n) k of few = simp length-append (omega (arith, join_few n k of few, few n))

-- ---- what is in it

pub join_has : {A : Type 0} (n : ℕ) (of : ℕ → List A) {a : A} → Memᴰ a (join_below n of)
    → (p : ℕ) × (p < n) × Memᴰ a (of p)
unfolding join_below
join_has zero of m = absurd (Memᴰ.not-nil m)
join_has (suc n) of m =
    ⊎_elim
    (λ m'.
    let (p, h, there) = join_has n of m' in
    (p, omega arith, there))
    (λ m'. (n, le_refl (suc n), m'))
    (Memᴰ.append_cases (join_below n of) m)

pub has_join : {A : Type 0} (n : ℕ) (of : ℕ → List A) {a : A} (p : ℕ) → p < n → Memᴰ a (of p)
    → Memᴰ a (join_below n of)
unfolding join_below
has_join zero of p h m = absurd (not-suc-le-zero h)
has_join (suc n) of {a} p h m =
    below_suc (λ q. Memᴰ a (of q) → Memᴰ a (join_below n of ++ of n)) n
    (λ q l m'. Memᴰ.append_left (of n) (has_join n of q l m'))
    (λ m'. Memᴰ.append_right (join_below n of) m')
    p
    h
    m

-- ---- when it rises: below n, what belongs to p has keys from `low p` up to below `low (p + 1)`, and rises

module _ {A : Type 0} (key : A → ℕ) (of : ℕ → List A) (low : ℕ → ℕ) (climbs : (p : ℕ) → low p ≤ low (suc p)) where
  low_climbs : (p n : ℕ) → p ≤ n → low p ≤ low n
  low_climbs p n h = le_ind (λ (m : ℕ). low p ≤ low m) (le_refl (low p)) (λ m l e. le_trans e (climbs m)) n h

  pub join_rising : (n : ℕ)
      → ((p : ℕ) (x : A) → p < n → Memᴰ x (of p) → (low p ≤ key x) × (key x < low (suc p)))
      → ((p : ℕ) → Rising key (of p)) → Rising key (join_below n of)
  unfolding join_below
  join_rising zero apart each = tt
  join_rising (suc n) apart each =
      rising_append key (join_below n of) (of n) (join_rising n (λ p x h m. apart p x (omega arith) m) each) (each n)
      (λ x y mx my.
      let (p, h, there) = join_has n of mx in
      lt_of_lt_of_le (apart p x (omega arith) there).1
      (le_trans (low_climbs (suc p) n h) (apart n y (le_refl (suc n)) my).0))
