-- "In this order, first failure decides". Assumes nothing.
use Prim.Native.Nat.{ℕ, ◌<◌}
use native.Mathlib.Omega.{arith}
use mathlib.Core.Path.{◌≡◌, refl, sym}
use mathlib.Core.Logic.{◌↔◌, ◌⊎◌, inl, inr, ⊎_elim}
use mathlib.Core.Bool.{Bool, true, false, ◌&&◌}
use mathlib.Core.List.{List, [], ◌∷◌}
use lib.Dec.{T, ltb}
use Rattle.model.specs.Tests.{check}
use Rattle.model.proofs.Laws.Places.{All}
use Rattle.model.proofs.Laws.Tests.{and_iff, ltb_iff}

-- Failures in their order, each with its code and when it is there. A code is drawn if its failure is there and none before it is;
-- 00h is drawn if there is none at all.
abbrev pub Draws : List (ℕ × Type 0) → ℕ → Type 0
Draws [] code = code ≡ 0x00
Draws (failure ∷ rest) code = (failure.1 × (code ≡ failure.0)) ⊎ ((failure.1 → ⊥) × Draws rest code)

-- ---- A row of checks that pass unless these failures are there draws these codes.

abbrev pub first_failure : List (ℕ × Bool) → ℕ
first_failure [] = 0x00
first_failure (test ∷ tests) = check test.1 test.0 (first_failure tests)

-- Each check has its failure's code, and passes exactly unless it is there.
pub data Tell : List (ℕ × Bool) → List (ℕ × Type 0) → Type 1 where
  nothing : Tell [] []
  tell : {code : ℕ} {test : Bool} {There : Type 0} {tests : List (ℕ × Bool)} {failures : List (ℕ × Type 0)}
      → (T test → ⊥) ↔ There → Tell tests failures → Tell ((code, test) ∷ tests) ((code, There) ∷ failures)

pub draws_first : (tests : List (ℕ × Bool)) (failures : List (ℕ × Type 0)) → Tell tests failures → (code : ℕ)
    → (first_failure tests ≡ code)
    ↔ Draws failures code
draws_first tests failures nothing code = (λ e. sym e, λ e. sym e)
draws_first tests failures (tell {test = true} {There = There} {tests = later} {failures = rest} says telling) code =
    let none : There → ⊥ = λ there. says.1 there tt in
    let after = draws_first later rest telling code in
    (λ e. inr (none, after.0 e), ⊎_elim (λ h. absurd (none h.0)) (λ h. after.1 h.1))
draws_first tests failures (tell {test = false} {There = There} says telling) code =
    let there : There = says.0 (λ t. t) in
    (λ e. inl (there, sym e), ⊎_elim (λ h. sym h.1) (λ h. absurd (h.0 there)))

-- ---- 00h is drawn exactly if every check passes, where none has the code 00h.

abbrev pub AllPass : List (ℕ × Bool) → Type 0
AllPass = All (λ test. T test.1)

abbrev pub no_code00 : List (ℕ × Bool) → Bool
no_code00 [] = true
no_code00 (test ∷ tests) = ltb 0x00 test.0 && no_code00 tests

pub passes_all : (tests : List (ℕ × Bool)) → T (no_code00 tests) → (first_failure tests ≡ 0x00) ↔ AllPass tests
passes_all [] t = (λ e. tt, λ all. refl)
passes_all ((c, true) ∷ tests) t =
    let later = passes_all tests ((and_iff (ltb 0x00 c) (no_code00 tests)).0 t).1 in
    (λ e. (tt, later.0 e), λ all. later.1 all.1)
passes_all ((c, false) ∷ tests) t =
    let some : 0x00 < c = (ltb_iff 0x00 c).0 ((and_iff (ltb 0x00 c) (no_code00 tests)).0 t).0 in
    (λ e. absurd (omega arith), λ all. absurd all.0)
