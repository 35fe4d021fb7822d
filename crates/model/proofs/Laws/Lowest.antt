-- "The lowest number that applies is given." Assumes nothing.
use Prim.Native.Nat.{ℕ, zero, suc, ◌≤◌, ◌<◌}
use native.Mathlib.Omega.{arith}
use mathlib.Core.Path.{◌≡◌, refl}
use mathlib.Core.Logic.Iff
use mathlib.Core.Logic.{◌↔◌, ◌⊎◌, inl, inr, ⊎_elim}
use mathlib.Core.Bool.{Bool, true, not, ◌&&◌}
use mathlib.Core.List.{List, [], ◌∷◌}
use lib.Dec.{T, ltb, T_not, not_T}
use Rattle.model.proofs.Laws.Drawn.{Draws, first_failure, Tell, nothing, tell, draws_first, AllPass, no_code00, passes_all}
use Rattle.model.proofs.Laws.Places.{All}
use Rattle.model.proofs.Laws.Tests.{and_iff, unless_iff, ltb_iff}

-- Refusals, each with its number and its condition: number k applies.
abbrev pub Applies : List (ℕ × Type 0) → ℕ → Type 0
Applies [] k = ⊥
Applies (refusal ∷ rest) k = ((k ≡ refusal.0) × refusal.1) ⊎ Applies rest k

-- number k applies, and none below it does
abbrev pub Lowest : List (ℕ × Type 0) → ℕ → Type 0
Lowest refusals k = Applies refusals k × ((j : ℕ) → j < k → Applies refusals j → ⊥)

-- What was told is the lowest number that applies: each number from 1 on is told exactly when it is the lowest, and 0, which stands for
-- no refusal, exactly when none applies.
pub record Gives (refusals : List (ℕ × Type 0)) (told : ℕ) : Type 0 where
  pub each : (k : ℕ) → ((1 ≤ k) × (told ≡ k)) ↔ Lowest refusals k
  pub none : (told ≡ 0) ↔ ((k : ℕ) → Applies refusals k → ⊥)

-- ---- Where the numbers rise, the lowest that applies is the first that does.

-- the numbers are above n, and rise; and a test of it
abbrev Rising : ℕ → List (ℕ × Type 0) → Type 0
Rising n [] = Unit {0}
Rising n (refusal ∷ rest) = (n < refusal.0) × Rising refusal.0 rest

abbrev pub rising : ℕ → List (ℕ × Type 0) → Bool
rising n [] = true
rising n (refusal ∷ rest) = ltb n refusal.0 && rising refusal.0 rest

rising_says : (refusals : List (ℕ × Type 0)) (n : ℕ) → T (rising n refusals) → Rising n refusals
rising_says [] n t = tt
rising_says ((m, A) ∷ rest) n t =
    let (above, later) = (and_iff (ltb n m) (rising m rest)).0 t in
    ((ltb_iff n m).0 above, rising_says rest m later)

applies_above : (refusals : List (ℕ × Type 0)) (n k : ℕ) → Rising n refusals → Applies refusals k → n < k
applies_above [] n k rises there = absurd there
applies_above ((m, A) ∷ rest) n k rises (inl here) = omega (arith, rises.0, here.0)
applies_above ((m, A) ∷ rest) n k rises (inr there) = omega (arith, rises.0, applies_above rest m k rises.1 there)

drawn_lowest : (refusals : List (ℕ × Type 0)) (n k : ℕ) → Rising n refusals
    → ((1 ≤ k) × Draws refusals k)
    ↔ Lowest refusals k
drawn_lowest [] n k rises = (λ h. absurd (omega arith), λ h. absurd h.0)
drawn_lowest ((m, A) ∷ rest) n k rises =
    let later = drawn_lowest rest m k rises.1 in (
      λ (some, drawn).
          ⊎_elim
          (λ (holds, is_m). (
            inl (is_m, holds),
            λ j below.
                ⊎_elim (λ here. omega (arith, here.0)) (λ there. omega (arith, applies_above rest m j rises.1 there)),
          ))
          (λ (fails, drawn_later).
          let (applies, least) = later.0 (some, drawn_later) in
          (inr applies, λ j below. ⊎_elim (λ here. fails here.1) (λ there. least j below there)))
          drawn,
      λ (applies, least).
          ⊎_elim
          (λ (is_m, holds). (omega (arith, rises.0), inl (holds, is_m)))
          (λ there.
          let above : m < k = applies_above rest m k rises.1 there in
          let (some, drawn_later) = later.1 (there, λ j below t. least j below (inr t)) in
          (some, inr (λ holds. least m above (inl (refl, holds)), drawn_later)))
          applies,
    )

none_drawn : (refusals : List (ℕ × Type 0)) (n : ℕ) → Rising n refusals
    → Draws refusals 0
    ↔ ((k : ℕ) → Applies refusals k → ⊥)
none_drawn [] n rises = (λ e k there. there, λ none. refl)
none_drawn ((m, A) ∷ rest) n rises =
    let later = none_drawn rest m rises.1 in (
      ⊎_elim (λ (holds, is_0). absurd (omega (arith, rises.0)))
          (λ (fails, drawn_later) k. ⊎_elim (λ here. fails here.1) (λ there. later.0 drawn_later k there)),
      λ none. inr (λ holds. none m (inl (refl, holds)), later.1 (λ k there. none k (inr there))),
    )

-- ---- So each number is given exactly if its condition holds and none before it in the row does.

abbrev pub number_at : List (ℕ × Type 0) → ℕ → ℕ
number_at [] i = 0
number_at (refusal ∷ rest) zero = refusal.0
number_at (refusal ∷ rest) (suc i) = number_at rest i

abbrev pub FirstAt : List (ℕ × Type 0) → ℕ → Type 0
FirstAt [] i = ⊥
FirstAt (refusal ∷ rest) zero = refusal.1
FirstAt (refusal ∷ rest) (suc i) = (refusal.1 → ⊥) × FirstAt rest i

-- past the end stands 0, and before it a number above n
numbers_above : (refusals : List (ℕ × Type 0)) (n i : ℕ) → Rising n refusals → (number_at refusals i ≡ 0) ⊎ (n < number_at refusals i)
numbers_above [] n i rises = inl refl
numbers_above ((m, A) ∷ rest) n zero rises = inr rises.0
numbers_above ((m, A) ∷ rest) n (suc i) rises =
    ⊎_elim (λ e. inl e) (λ above. inr (omega (arith, rises.0))) (numbers_above rest m i rises.1)

lowest_first : (refusals : List (ℕ × Type 0)) (n i : ℕ) → Rising n refusals → Lowest refusals (number_at refusals i) ↔ FirstAt refusals i
lowest_first [] n i rises = (λ h. h.0, λ h. absurd h)
lowest_first ((m, A) ∷ rest) n zero rises = (
  λ (applies, least). ⊎_elim (λ here. here.1) (λ there. absurd (omega (arith, applies_above rest m m rises.1 there))) applies,
  λ holds. (
    inl (refl, holds),
    λ j below. ⊎_elim (λ here. omega (arith, here.0)) (λ there. omega (arith, applies_above rest m j rises.1 there)),
  ),
)
lowest_first ((m, A) ∷ rest) n (suc i) rises =
    let later = lowest_first rest m i rises.1 in (
      λ (applies, least).
          let there : Applies rest (number_at rest i) =
          ⊎_elim (λ here. ⊎_elim (λ past. absurd (omega (arith, here.0, rises.0))) (λ more. absurd (omega (arith, here.0))) (numbers_above rest m i rises.1))
          (λ t. t)
          applies in
          let above : m < number_at rest i = applies_above rest m (number_at rest i) rises.1 there in
          (λ holds. least m above (inl (refl, holds)), later.0 (there, λ j below t. least j below (inr t))),
      λ (fails, first).
          let (there, least) = later.1 first in
          (inr there, λ j below. ⊎_elim (λ here. fails here.1) (least j below)),
    )

pub place_given : (refusals : List (ℕ × Type 0)) → T (rising 0 refusals) → {told : ℕ} → Gives refusals told → (i : ℕ)
    → T (ltb 0 (number_at refusals i)) → (told ≡ number_at refusals i) ↔ FirstAt refusals i
place_given refusals t gives i some =
    Iff.trans (λ e. ((ltb_iff 0 (number_at refusals i)).0 some, e), λ h. h.1)
    (Iff.trans (gives.each (number_at refusals i)) (lowest_first refusals 0 i (rising_says refusals 0 t)))

-- ---- So a row of tests that say these conditions gives it: the number of the first that holds, or 0.

-- the tests as checks, which pass unless they hold
abbrev pub denied : List (ℕ × Bool) → List (ℕ × Bool)
denied [] = []
denied (test ∷ tests) = (test.0, not test.1) ∷ denied tests

abbrev pub first_given : List (ℕ × Bool) → ℕ
first_given tests = first_failure (denied tests)

-- each test has its refusal's number, and says its condition
pub data Say : List (ℕ × Bool) → List (ℕ × Type 0) → Type 1 where
  no_more : Say [] []
  says : {n : ℕ} {test : Bool} {A : Type 0} {tests : List (ℕ × Bool)} {refusals : List (ℕ × Type 0)}
      → T test ↔ A → Say tests refusals → Say ((n, test) ∷ tests) ((n, A) ∷ refusals)

denied_tell : (tests : List (ℕ × Bool)) (refusals : List (ℕ × Type 0)) → Say tests refusals → Tell (denied tests) refusals
denied_tell tests refusals no_more = nothing
denied_tell tests refusals (says {test = test} {tests = later} {refusals = rest} f say) =
    tell (unless_iff test f) (denied_tell later rest say)

pub row_gives : (tests : List (ℕ × Bool)) (refusals : List (ℕ × Type 0)) → T (rising 0 refusals) → Say tests refusals
    → Gives refusals (first_given tests)
row_gives tests refusals t say =
    let rises : Rising 0 refusals = rising_says refusals 0 t in
    let tells : Tell (denied tests) refusals = denied_tell tests refusals say in
    record {
      each = λ k.
          let drawn = draws_first (denied tests) refusals tells k in
          Iff.trans (λ (some, told). (some, drawn.0 told), λ (some, draws). (some, drawn.1 draws))
          (drawn_lowest refusals 0 k rises);
      none = Iff.trans (draws_first (denied tests) refusals tells 0) (none_drawn refusals 0 rises);
    }

-- and 0 exactly when none of them holds
abbrev pub NoneHolds : List (ℕ × Bool) → Type 0
NoneHolds = All (λ test. T test.1 → ⊥)

all_denied : (tests : List (ℕ × Bool)) → AllPass (denied tests) ↔ NoneHolds tests
all_denied [] = (λ all. tt, λ none. tt)
all_denied (test ∷ tests) =
    let later = all_denied tests in
    (λ all. (T_not test.1 all.0, later.0 all.1), λ none. (not_T test.1 none.0, later.1 none.1))

pub none_given : (tests : List (ℕ × Bool)) → T (no_code00 (denied tests)) → (first_given tests ≡ 0) ↔ NoneHolds tests
none_given tests some = Iff.trans (passes_all (denied tests) some) (all_denied tests)
