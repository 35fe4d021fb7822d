-- Which monitors a report takes to their thresholds. On a source that is no peak it takes none there. Assumes nothing.
use Rattle.std.proofs.Common.{◌≡◌, ℕ, Bool, true, false, eqb, List, [], ◌∷◌, length, map, replicate, None, refl, ap, ◌∙◌, arith, eqb-true}
use Rattle.model.specs.declared.Monitor.{Monitor}
use Rattle.model.specs.Counting.{counted, crosses, crossings, marked}
use Rattle.model.specs.Sources.{peak}
use Rattle.model.proofs.Laws.Tests.{is_false}
use Rattle.model.proofs.Plain.Counting.{crosses_iff}

-- a monitor on another kind of source, and one whose value stays, cross nothing
not_a_peak : (m : Monitor) (after : ℕ) → peak m.source ≡ false → crosses m after ≡ false
unfolding crosses
not_a_peak m after e = rw e

same_value : (m : Monitor) (after : ℕ) → after ≡ m.value → crosses m after ≡ false
same_value m after e =
    is_false (crosses m after)
    (λ t.
    let h = (crosses_iff m after).0 t in
    omega (arith, e, h.1))

module _ (source amount : ℕ) where
  not_crossed : peak source ≡ false → (m : Monitor) → crosses m (counted source amount m).value ≡ false
  unfolding counted
  not_crossed counts m = go (eqb m.source source) refl
    where
      go : (b : Bool) → eqb m.source source ≡ b → crosses m (counted source amount m).value ≡ false
      go true e = not_a_peak m _ (ap peak (eqb-true m.source source e) ∙ counts)
      go false e = same_value m _ (rw e)

  pub none_crossed : peak source ≡ false → (ms : List Monitor) → crossings source amount ms ≡ replicate (length ms) false
  none_crossed counts [] = refl
  none_crossed counts (m ∷ ms) = rw (not_crossed counts m, none_crossed counts ms)

  all_none : peak source ≡ false → (ms : List Monitor)
      → marked (crossings source amount ms) (map (counted source amount) ms) ≡ replicate (length ms) None
  all_none counts [] = refl
  all_none counts (m ∷ ms) = rw (not_crossed counts m, all_none counts ms)

  pub none_left : peak source ≡ false → (ms : List Monitor) → length ms ≡ 4
      → marked (crossings source amount ms) (map (counted source amount) ms) ≡ None ∷ None ∷ None ∷ None ∷ []
  none_left counts ms four = all_none counts ms ∙ ap (λ n. replicate n None) four
