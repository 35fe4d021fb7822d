-- The small words that document 01's sentences are made of.
use Rattle.std.specs.Prelude.{ℕ, zero, suc, ◌+◌, Bool, true, false, not, ◌&&◌, ◌||◌, List, [], ◌∷◌, ◌++◌, leb, eqb}

-- "In this order, first failure decides": where the test holds go on, and where it does not, stop with the failure.
abbrev pub check {ℓ} : {A : Type ℓ} → Bool → A → A → A
check true failure rest = rest
check false failure rest = failure

-- "Given exactly when .. The lowest number that applies is given": where the condition holds the refusal, and where it does not, go on.
abbrev pub given {ℓ} : {A : Type ℓ} → Bool → A → A → A
given condition refusal rest = check (not condition) refusal rest

-- m is at most n: a test that computes, where `≤` is the statement
infix 50 ◌<=◌
abbrev pub ◌<=◌ : ℕ → ℕ → Bool
m <= n = leb m n

-- n is one of the numbers from low to high
abbrev pub within : ℕ → ℕ → ℕ → Bool
within low high n = low <= n && n <= high

-- n is one of those listed
abbrev pub one_of : List ℕ → ℕ → Bool
one_of [] n = false
one_of (x ∷ xs) n = eqb n x || one_of xs n

-- the test holds of each of 0 to n - 1
unfoldable pub all_below : ℕ → (ℕ → Bool) → Bool
all_below zero test = true
all_below (suc n) test = all_below n test && test n

-- the sum over 0 to n - 1
unfoldable pub sum_below : ℕ → (ℕ → ℕ) → ℕ
sum_below zero of = 0
sum_below (suc n) of = sum_below n of + of n

-- what belongs to 0, then what belongs to 1, and so on to n - 1
unfoldable pub join_below {ℓ} : {A : Type ℓ} → ℕ → (ℕ → List A) → List A
join_below zero of = []
join_below (suc n) of = join_below n of ++ of n
