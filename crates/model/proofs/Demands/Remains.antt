-- A run's answers to a group are those of what remains of it. Assumes nothing.
use Prim.Native.Nat.{ℕ}
use mathlib.Core.Path.{◌≡◌, refl, sym, ap, ap₂, ◌∙◌}
use mathlib.Core.List.{List, [], ◌∷◌, ◌++◌}
use lib.Dec.{T}
use Rattle.model.specs.declared.Shelf.{Shelf}
use Rattle.model.specs.CrossedOut.{crossed_out, remains}
use Rattle.model.specs.Runs.{Operation, Told, next, told, answers}
use Rattle.model.proofs.Demands.Looks.{looks}
use Rattle.model.proofs.Demands.OneOperation.{looks_next, looks_told}
use Rattle.model.proofs.Demands.Unseen.{OneReachesAll, reaches_all_zones, crossed_unseen, crossed_untold, crossed_zones}
use Rattle.model.proofs.Laws.Steps.{SameZones, next_zones, zones_on}
use Rattle.model.proofs.Laws.Tests.{cond_by}

-- ---- Two shelves that look the same to g give it the same answers, whatever happens.

same_next : (g : ℕ) (s t : Shelf) (operation : Operation) → looks g s ≡ looks g t
    → looks g (next s operation) ≡ looks g (next t operation)
same_next g s t operation e =
    sym (looks_next g s operation) ∙ ap (λ u. looks g (next u operation)) e ∙ looks_next g t operation

same_told : (g : ℕ) (s t : Shelf) (operation : Operation) → looks g s ≡ looks g t
    → told g s operation ≡ told g t operation
same_told g s t operation e =
    sym (looks_told g s operation) ∙ ap (λ u. told g u operation) e ∙ looks_told g t operation

same_answers : (g : ℕ) (s t : Shelf) (operations : List Operation) → looks g s ≡ looks g t
    → answers g s operations ≡ answers g t operations
unfolding answers
same_answers g s t [] e = refl
same_answers g s t (operation ∷ operations) e =
    ap₂ (λ (first rest : List Told). first ++ rest) (same_told g s t operation e)
    (same_answers g (next s operation) (next t operation) operations (same_next g s t operation e))

-- ---- A run's answers are those of what remains of it.

-- One operation: s₀ is the shelf at which the crossing-out is judged, s the one where the run stands. Crossed out, it tells g nothing,
-- and the shelf looks as before.
remains_step : (g : ℕ) (s₀ s : Shelf) (operation : Operation) (operations : List Operation) → OneReachesAll g s₀ → SameZones s₀ s
    → answers g (next s operation) operations ≡ answers g (next s operation) (remains g s₀ operations)
    → answers g s (operation ∷ operations) ≡ answers g s (remains g s₀ (operation ∷ operations))
unfolding answers remains
remains_step g s₀ s operation operations all zones later =
    let rest : List Operation = remains g s₀ operations in
    cond_by (λ left. told g s operation ++ answers g (next s operation) operations ≡ answers g s left) (crossed_out g s₀ operation) rest (operation ∷ rest)
    (λ e.
    let crossed : T (crossed_out g s operation) = rw (crossed_zones g s₀ s operation zones, e) tt in
    ap (λ first. first ++ answers g (next s operation) operations) (crossed_untold g s operation crossed)
    ∙ later
    ∙ same_answers g (next s operation) s rest (crossed_unseen g s (reaches_all_zones g s₀ s zones all) operation crossed))
    (λ e. ap (λ then. told g s operation ++ then) later)

pub remains_answers : (g : ℕ) (s₀ s : Shelf) (operations : List Operation) → OneReachesAll g s₀ → SameZones s₀ s
    → answers g s operations ≡ answers g s (remains g s₀ operations)
unfolding remains
remains_answers g s₀ s [] all zones = refl
remains_answers g s₀ s (operation ∷ operations) all zones =
    remains_step g s₀ s operation operations all zones
    (remains_answers g s₀ (next s operation) operations all (zones_on s₀ s (next s operation) zones (next_zones s operation)))
