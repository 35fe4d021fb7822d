-- Calls one after another, each of which goes as the model does: so does the whole run. Assumes nothing.
use Prim.Native.Nat.{ℕ}
use mathlib.Core.Path.{◌≡◌, refl, ap, subst, subst⁻¹, ◌∙◌}
use mathlib.Core.Bool.{Bool, true, false, cond}
use mathlib.Core.List.{List, [], ◌∷◌, map, map-append}
use lib.Dec.{eqb}
use lib.ListN.{length}
use Rattle.model.specs.declared.Shelf.{Shelf}
use Rattle.model.specs.Fits.{AllFit}
use Rattle.model.specs.Runs.{Operation, Ask, Event, LinkChange, ReducedFunctionality, Ses, QueryReach}
use Rattle.model.specs.Runs.{next, after, Told, told, answers}
use Rattle.model.proofs.Laws.Places.{All}
use Rattle.words.specs.Memory.{Memory}
use Rattle.words.specs.Sizes.{shelf_words}
use Rattle.words.specs.Words.{shelf_of}
use Rattle.calls.specs.Operations.{Said, said, buffer_after, gets}
use Rattle.calls.specs.Runs.{Asks, Goes, RunsAs, coded_told, RunFrom, operations, last_words, got_of, got}
use Rattle.calls.proofs.OneCall.{stand, leaves_memory}

module _ {A : Type 0} (coded : Said → A) where
  -- what the promise of a call gives, where it is handed the words of a shelf
  abbrev pub Go : Asks A → Type 0
  Go c = length c.before ≡ shelf_words → Goes coded (shelf_of c.before) c

  -- the run, call by call; and the words that it leaves stand for the model's last shelf
  pub record Ends (ws : List ℕ) (run : List (Asks A)) : Type 0 where
    pub goes : RunsAs coded (shelf_of ws) run
    pub shelf : shelf_of (last_words ws run) ≡ after (shelf_of ws) (operations run)

  ends_from : (c : Asks A) (run : List (Asks A)) → Goes coded (shelf_of c.before) c
      → shelf_of c.after ≡ next (shelf_of c.before) c.asked → Ends c.after run → Ends c.before (c ∷ run)
  unfolding RunsAs last_words after
  ends_from c run goes next_shelf rest =
      record {
        goes = (refl, goes, subst (λ s. RunsAs coded s run) next_shelf rest.goes);
        shelf = rest.shelf ∙ ap (λ s. after s (operations run)) next_shelf;
      }

  pub ends : (ws : List ℕ) (run : List (Asks A)) → All Go run → RunFrom ws run → Memory ws → AllFit (operations run) → Ends ws run
  unfolding RunsAs RunFrom last_words after
  ends ws [] go from memory fit = record { goes = tt; shelf = refl }
  ends ws (c ∷ run) go (here, from) memory fit =
      let found : Memory c.before = subst⁻¹ Memory here memory in
      let goes : Goes coded (shelf_of c.before) c = go.0 found.size in
      subst (λ w. Ends w (c ∷ run)) here
      (ends_from c run goes (stand coded c goes found fit.0)
      (ends c.after run go.1 from (leaves_memory coded c goes found fit.0) fit.1))

  -- what a group gets of one operation, as the interface codes it
  one_told : (b : Bool) (t : Told) → cond b (coded_told coded t ∷ []) [] ≡ map (coded_told coded) (cond b (t ∷ []) [])
  one_told true t = refl
  one_told false t = refl

  told_coded : (g : ℕ) (s : Shelf) (o : Operation)
      → cond (gets g o) ((coded (said s o), buffer_after s o) ∷ []) [] ≡ map (coded_told coded) (told g s o)
  unfolding gets said buffer_after told coded_told
  told_coded g s (Ask h frame out) = one_told (eqb h g) _
  told_coded g s (Event p source amount) = refl
  told_coded g s (LinkChange p) = refl
  told_coded g s ReducedFunctionality = refl
  told_coded g s Ses = refl
  told_coded g s (QueryReach h) = one_told (eqb h g) _

  got_coded : (g : ℕ) (s : Shelf) (c : Asks A) → Goes coded s c → got_of g c ≡ map (coded_told coded) (told g s c.asked)
  got_coded g s c goes = rw (goes.told, goes.buffer) (told_coded g s c.asked)

  -- what a group got are the model's answers
  pub got_answers : (g : ℕ) (s : Shelf) (run : List (Asks A)) → RunsAs coded s run
      → got g run ≡ map (coded_told coded) (answers g s (operations run))
  unfolding RunsAs got answers
  got_answers g s [] goes = refl
  got_answers g s (c ∷ run) (stands, goes, rest) =
      rw (got_coded g s c goes, got_answers g (next s c.asked) run rest, map-append)
