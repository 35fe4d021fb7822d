-- Laws of the small words of `specs/Tests`: when each holds, in plain logic. Assumes nothing.
use Prim.Native.Nat.{ℕ, zero, suc, ◌≤◌, ◌<◌}
use native.Mathlib.Nat.{not-suc-le-zero, not-le_of_lt, lt_of_not-le, le_of_suc-le-suc, eq-or-lt_of_le}
use native.Mathlib.Omega.{arith}
use mathlib.Core.Path.{◌≡◌, refl, subst⁻¹}
use mathlib.Core.Logic.Iff
use mathlib.Core.Logic.{◌↔◌, ◌⊎◌, inl, inr, ⊎_elim, ⊎_map}
use mathlib.Core.Bool.{Bool, true, false, not, cond, ◌&&◌, ◌||◌, beq, or_assoc, true≢false, false≢true}
use mathlib.Core.List.Memᴰ
use mathlib.Core.List.{List, [], ◌∷◌, Memᴰ}
use lib.Dec.{T, leb, ltb, eqb, T_not, not_T, nleb→lt, leb→le, le→leb, ltb→lt, lt→ltb, eqb→eq, eqb_refl}
use Rattle.model.specs.Tests.{check, within, one_of, all_below}

-- ---- Bool

pub and_iff : (a b : Bool) → T (a && b) ↔ (T a × T b)
and_iff true b = (λ t. (tt, t), λ p. p.1)
and_iff false b = (λ t. absurd t, λ p. p.0)

pub or_iff : (a b : Bool) → T (a || b) ↔ (T a ⊎ T b)
or_iff true b = (λ t. inl tt, λ s. tt)
or_iff false b = (λ t. inr t, elim [ inl t ↦ absurd t | inr t ↦ t ])

pub not_not_iff : (a : Bool) → (T (not a) → ⊥) ↔ T a
not_not_iff true = (λ f. tt, λ t e. e)
not_not_iff false = (λ f. f tt, λ t e. t)

pub not_both_iff : (a b : Bool) → T (not (a && b)) ↔ (T a → T b → ⊥)
not_both_iff true true = (λ t. absurd t, λ f. f tt tt)
not_both_iff true false = (λ t a b. b, λ f. tt)
not_both_iff false b = (λ t a b'. a, λ f. tt)

pub same_iff : (a b : Bool) → T (beq a b) ↔ (a ≡ b)
same_iff true true = (λ t. refl, λ e. tt)
same_iff true false = (λ t. absurd t, λ e. absurd (true≢false e))
same_iff false true = (λ t. absurd t, λ e. absurd (false≢true e))
same_iff false false = (λ t. refl, λ e. tt)

-- a test that holds is true, and one that doesn't is false
pub is_true : (a : Bool) → T a → a ≡ true
is_true true t = refl
is_true false t = absurd t

pub is_false : (a : Bool) → (T a → ⊥) → a ≡ false
is_false true no_a = absurd (no_a tt)
is_false false no_a = refl

-- the denial of a test, from what the test says
pub denied_iff : (a : Bool) {A : Type 0} → T a ↔ A → T (not a) ↔ (A → ⊥)
denied_iff a f = (λ t x. T_not a t (f.1 x), λ no_a. not_T a (λ t. no_a (f.0 t)))

-- .. and that the denial is false, exactly if what the test says holds
pub unless_iff : (a : Bool) {A : Type 0} → T a ↔ A → (T (not a) → ⊥) ↔ A
unless_iff a f = Iff.trans (not_not_iff a) f

-- that a test fails which is asked only under a condition, from what both say
pub fails_under_iff : (m a : Bool) {M A : Type 0} → T m ↔ M → T a ↔ A → (T (not m || a) → ⊥) ↔ (M × (A → ⊥))
fails_under_iff true a f g = (λ no_t. (f.0 tt, (Iff.not g).0 no_t), λ h. (Iff.not g).1 h.1)
fails_under_iff false a f g = (λ no_t. absurd (no_t tt), λ h. absurd (f.1 h.0))

-- two tests that say the same are one
pub iff_same : (a b : Bool) → T a ↔ T b → a ≡ b
iff_same true true same = refl
iff_same true false same = absurd (same.0 tt)
iff_same false true same = absurd (same.1 tt)
iff_same false false same = refl

-- a test of several parts, from what each part says
pub both_iff : (a b : Bool) {A B : Type 0} → T a ↔ A → T b ↔ B → T (a && b) ↔ (A × B)
both_iff a b f g = Iff.trans (and_iff a b) (Iff.and f g)

pub all_three_iff : (a b c : Bool) {A B C : Type 0}
    → T a ↔ A → T b ↔ B → T c ↔ C → T (a && b && c) ↔ (A × B × C)
all_three_iff a b c f g h = (
  λ t.
      let ((x, y), z) = (both_iff (a && b) c (both_iff a b f g) h).0 t in
      (x, y, z),
  λ p. (both_iff (a && b) c (both_iff a b f g) h).1 ((p.0, p.1), p.2),
)

pub either_iff : (a b : Bool) {A B : Type 0} → T a ↔ A → T b ↔ B → T (a || b) ↔ (A ⊎ B)
either_iff a b f g = Iff.trans (or_iff a b) (⊎_map f.0 g.0, ⊎_map f.1 g.1)

pub one_of_three_iff : (a b c : Bool) {A B C : Type 0}
    → T a ↔ A → T b ↔ B → T c ↔ C → T (a || b || c) ↔ (A ⊎ B ⊎ C)
one_of_three_iff a b c f g h = rw or_assoc (either_iff a (b || c) f (either_iff b c g h))

-- ---- numbers

pub leb_iff : (m n : ℕ) → T (leb m n) ↔ (m ≤ n)
leb_iff m n = (leb→le m n, le→leb m n)

pub ltb_iff : (m n : ℕ) → T (ltb m n) ↔ (m < n)
ltb_iff m n = (ltb→lt m n, lt→ltb m n)

pub eqb_iff : (m n : ℕ) → T (eqb m n) ↔ (m ≡ n)
eqb_iff m n = (eqb→eq m n, λ e. subst⁻¹ (λ (k : ℕ). T (eqb k n)) e (eqb_refl n))

pub within_iff : (low high n : ℕ) → T (within low high n) ↔ ((low ≤ n) × (n ≤ high))
within_iff low high n = both_iff (leb low n) (leb n high) (leb_iff low n) (leb_iff n high)

pub within_true : (low high n : ℕ) → within low high n ≡ true → (low ≤ n) × (n ≤ high)
within_true low high n e = (within_iff low high n).0 (rw e tt)

-- not at most is above
pub above_iff : (m n : ℕ) → T (not (leb m n)) ↔ (n < m)
above_iff m n = (nleb→lt m n, λ h. not_T (leb m n) (λ t. not-le_of_lt h (leb→le m n t)))

-- not above is at most
pub not_above : {m n : ℕ} → (m < n → ⊥) → n ≤ m
not_above h = le_of_suc-le-suc (lt_of_not-le h)

-- ---- one of a list

member_iff : (n x : ℕ) (xs : List ℕ) → Memᴰ n (x ∷ xs) ↔ ((n ≡ x) ⊎ Memᴰ n xs)
member_iff n x xs = (λ m. Memᴰ.cases_cons m, ⊎_elim (λ e. Memᴰ.head e) (λ m. Memᴰ.tail m))

pub one_of_iff : (xs : List ℕ) (n : ℕ) → T (one_of xs n) ↔ Memᴰ n xs
one_of_iff [] n = (λ t. absurd t, λ m. absurd (Memᴰ.not-nil m))
one_of_iff (x ∷ xs) n =
    Iff.trans (either_iff (eqb n x) (one_of xs n) (eqb_iff n x) (one_of_iff xs n)) (Iff.symm (member_iff n x xs))

-- what follows from being each of a list follows from being one of them
abbrev pub FromEach : ℕ → List ℕ → Type 0 → Type 0
FromEach n [] P = P
FromEach n (x ∷ xs) P = (n ≡ x → P) → FromEach n xs P

regardless : (P : Type 0) (n : ℕ) (xs : List ℕ) → P → FromEach n xs P
regardless P n [] p = p
regardless P n (x ∷ xs) p = λ f. regardless P n xs p

pub by_each : (P : Type 0) (n : ℕ) (xs : List ℕ) → Memᴰ n xs → FromEach n xs P
by_each P n [] m = absurd (Memᴰ.not-nil m)
by_each P n (x ∷ xs) m = λ f. ⊎_elim (λ e. regardless P n xs (f e)) (λ m'. by_each P n xs m') ((member_iff n x xs).0 m)

-- ---- all of 0 to n - 1

-- what holds of each number below n, and of n, holds of each below n + 1
pub below_suc : (P : ℕ → Type 0) (n : ℕ) → ((i : ℕ) → i < n → P i) → P n → (i : ℕ) → i < suc n → P i
below_suc P n all here i h =
    ⊎_elim (λ e. subst⁻¹ P e here) (λ l. all i l) (eq-or-lt_of_le (le_of_suc-le-suc h))

pub all_below_iff : (n : ℕ) (test : ℕ → Bool) → T (all_below n test) ↔ ((i : ℕ) → i < n → T (test i))
unfolding all_below
all_below_iff zero test = (λ t i h. absurd (not-suc-le-zero h), λ f. tt)
all_below_iff (suc n) test = (
  λ t.
      let both : T (all_below n test) × T (test n) = (and_iff (all_below n test) (test n)).0 t in
      below_suc (λ i. T (test i)) n ((all_below_iff n test).0 both.0) both.1,
  λ f.
      (and_iff (all_below n test) (test n)).1 ((all_below_iff n test).1 (λ i h. f i (omega arith)), f n (omega arith)),
)

-- not all of them pass exactly if there is one that doesn't
find_below : (n : ℕ) (test : ℕ → Bool) → T (not (all_below n test)) → (i : ℕ) × (i < n) × T (not (test i))
unfolding all_below
find_below zero test t = absurd t
find_below (suc n) test t = last (all_below n test) (find_below n test) t
  where
    last : (all : Bool) → (T (not all) → (i : ℕ) × (i < n) × T (not (test i))) → T (not (all && test n))
        → (i : ℕ) × (i < suc n) × T (not (test i))
    last true earlier none = (n, omega arith, none)
    last false earlier none = let (i, below, fails) = earlier tt in (i, omega arith, fails)

pub some_below_iff : (n : ℕ) (test : ℕ → Bool)
    → T (not (all_below n test))
    ↔ ((i : ℕ) × (i < n) × T (not (test i)))
some_below_iff n test = (
  find_below n test,
  λ h. not_T (all_below n test) (λ t. T_not (test h.0) h.2 ((all_below_iff n test).0 t h.0 h.1)),
)

-- ---- the first failure decides

-- what is made of the outcome of a check
pub check_map : {A B : Type 0} (f : A → B) (b : Bool) (failure rest : A)
    → f (check b failure rest) ≡ check b (f failure) (f rest)
check_map f true failure rest = refl
check_map f false failure rest = refl

-- ---- whichever way a test comes out

-- what a test chooses: the one thing where it holds, and the other where it does not
pub cond_iff : {A : Type 0} (b : Bool) (z x y : A) → (z ≡ cond b x y) ↔ ((T b → z ≡ x) × ((T b → ⊥) → z ≡ y))
cond_iff true z x y = (λ e. (λ t. e, λ f. absurd (f tt)), λ h. h.0 tt)
cond_iff false z x y = (λ e. (λ t. absurd t, λ f. e), λ h. h.1 (λ t. t))

-- what holds of the one where the test holds, and of the other where it does not, holds of the one that is chosen
pub cond_by : {A : Type 0} (P : A → Type 0) (b : Bool) (x y : A) → (b ≡ true → P x) → (b ≡ false → P y)
    → P (cond b x y)
cond_by P true x y px py = px refl
cond_by P false x y px py = py refl

-- what holds of both holds of the one that is chosen
pub cond_both : {A : Type 0} (P : A → Type 0) (b : Bool) (x y : A) → P x → P y → P (cond b x y)
cond_both P b x y px py = cond_by P b x y (λ e. px) (λ e. py)

pub check_both : {A : Type 0} (P : A → Type 0) (b : Bool) (failure rest : A) → P failure → P rest
    → P (check b failure rest)
check_both P true failure rest pf pr = pr
check_both P false failure rest pf pr = pf
