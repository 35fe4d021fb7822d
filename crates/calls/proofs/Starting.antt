-- A start that goes as the model does: its house refusal is the lowest that applies, and leaves the words; and a run that it begins keeps
-- the invariant, has its history for the list of stored peak events, leaves each error count as it was tallied (#104), and meets demand 3.
-- Assumes nothing.
use Rattle.std.specs.Prelude.{Ok, Err}
use Prim.Native.Nat.{ℕ, ◌+◌, ◌≤◌, ◌<◌}
use native.Mathlib.Omega.{arith}
use mathlib.Core.Path.{◌≡◌, refl, sym, ap, subst, subst⁻¹, ◌∙◌}
use mathlib.Core.List.{List, map}
use Rattle.model.specs.declared.Shelf.{Shelf}
use Rattle.model.specs.Answers.{Taken}
use Rattle.model.specs.CrossedOut.{remains}
use Rattle.model.specs.Fits.{Sound, AllFit, StartFits}
use Rattle.model.specs.History.{history}
use Rattle.model.specs.House.{taken_number}
use Rattle.model.specs.Runs.{after, answers}
use Rattle.model.specs.Shelf.{start_taken, start}
use Rattle.model.specs.Tally.{tally}
use Rattle.model.proofs.Demands.ErrorCounts.{Stands, error_count_tallied}
use Rattle.model.proofs.Demands.ErrorSteps.{count_of}
use Rattle.model.proofs.Demands.History.{IsHistory, list_is_history}
use Rattle.model.proofs.Demands.Invariant.{start_sound, after_sound}
use Rattle.model.proofs.Demands.Isolation.{demand_3}
use Rattle.model.proofs.Demands.Refusals.{start_gives}
use Rattle.model.proofs.Laws.Checks.{done_iff, outcome_taken}
use Rattle.model.proofs.Laws.Lowest.{Gives}
use Rattle.model.proofs.Laws.Places.{All}
use Rattle.words.specs.Memory.{Memory}
use Rattle.words.specs.Words.{shelf_of, words_of, started_words}
use Rattle.words.proofs.Steps.{done_words, started_stands, started_memory}
use Rattle.calls.specs.Operations.{Said, ToReport, Given, start_of, start_refusals_of}
use Rattle.calls.specs.Runs.{Seen, Asks, Starts, RunsAs, coded_told, RunFrom, operations, last_words, got}
use Rattle.calls.proofs.ManyCalls.{Go, Ends, ends, got_answers}

-- the words after a start that is refused
refused_words : (ws : List ℕ) (taken : Taken) (s : Shelf) → 1 ≤ taken_number taken
    → started_words ws (record { taken = taken; shelf = s }) ≡ ws
refused_words ws (Ok done) s refused = absurd (omega arith)
refused_words ws (Err house) s refused = refl

module _ {A : Type 0} (coded : Said → A) (refusal : A → ℕ)
    (reads : (taken : Taken) → refusal (coded (ToReport taken)) ≡ taken_number taken) where
  module _ (x : Seen Given A) (starts : Starts coded x) where
    start_number : refusal x.told ≡ taken_number (start_of x.asked).taken
    start_number = ap refusal starts.told ∙ reads (start_of x.asked).taken

    pub start_lowest : Gives (start_refusals_of x.asked) (refusal x.told)
    start_lowest =
        subst⁻¹ (Gives (start_refusals_of x.asked)) start_number
        (start_gives x.asked.number x.asked.groups x.asked.table x.asked.identifier)

    pub start_stays : 1 ≤ refusal x.told → x.after ≡ x.before
    start_stays refused =
        starts.words ∙ refused_words x.before (start_of x.asked).taken (start_of x.asked).shelf (rw start_number at refused)

    -- a start that is not refused
    module _ (taken : refusal x.told ≡ 0) where
      done : (start_of x.asked).taken ≡ Ok tt
      done = (done_iff (start_of x.asked).taken).1 (sym start_number ∙ taken)

      fresh_words : x.after ≡ words_of (start_of x.asked).shelf
      fresh_words = starts.words ∙ done_words x.before (start_of x.asked) done

      module _ (fit : StartFits x.asked.table x.asked.identifier) where
        taken_done : start_taken x.asked.number x.asked.groups x.asked.table ≡ Ok tt
        unfolding start
        taken_done = sym (outcome_taken _ _ _) ∙ done

        fresh_stands : shelf_of x.after ≡ (start_of x.asked).shelf
        fresh_stands = ap shelf_of fresh_words ∙ started_stands _ _ _ _ fit taken_done

        fresh_memory : Memory x.after
        fresh_memory = subst⁻¹ Memory fresh_words (started_memory _ _ _ _ fit taken_done)

        fresh_sound : Sound (start_of x.asked).shelf
        fresh_sound = start_sound _ _ _ _ fit taken_done

        -- the run that it begins
        module _ (run : List (Asks A)) (go : All (Go coded) run) (from : RunFrom x.after run) (fits : AllFit (operations run)) where
          run_ends : Ends coded x.after run
          run_ends = ends coded x.after run go from fresh_memory fits

          pub begun_goes : RunsAs coded (start_of x.asked).shelf run
          begun_goes = subst (λ s. RunsAs coded s run) fresh_stands run_ends.goes

          pub begun_shelf : shelf_of (last_words x.after run) ≡ after (start_of x.asked).shelf (operations run)
          begun_shelf = run_ends.shelf ∙ ap (λ s. after s (operations run)) fresh_stands

          pub begun_sound : Sound (shelf_of (last_words x.after run))
          begun_sound = subst⁻¹ Sound begun_shelf (after_sound _ (operations run) fits fresh_sound)

          pub begun_history :
              IsHistory (shelf_of (last_words x.after run)).store (history (start_of x.asked).shelf (operations run))
          begun_history =
              subst⁻¹ (λ s. IsHistory s.store (history (start_of x.asked).shelf (operations run))) begun_shelf
              (list_is_history x.asked.number x.asked.groups x.asked.table x.asked.identifier (operations run))

          pub begun_tallied : (p k : ℕ) → k < 4
              → Stands (tally p (k + 1) (start_of x.asked).shelf (operations run)) (count_of p k (shelf_of (last_words x.after run)))
          begun_tallied p k below =
              subst⁻¹ (λ s. Stands (tally p (k + 1) (start_of x.asked).shelf (operations run)) (count_of p k s)) begun_shelf
              (error_count_tallied x.asked.number x.asked.groups x.asked.table x.asked.identifier (operations run) p k below)

          begun_answers : (g : ℕ) → got g run ≡ map (coded_told coded) (answers g (start_of x.asked).shelf (operations run))
          begun_answers g = got_answers coded g _ run begun_goes

  -- Two starts that are given the same are told the same, and leave the same words where they are taken.
  module _ (x y : Seen Given A) (starts_x : Starts coded x) (starts_y : Starts coded y) (same : x.asked ≡ y.asked) where
    pub same_told : x.told ≡ y.told
    same_told = starts_x.told ∙ ap (λ given. coded (ToReport (start_of given).taken)) same ∙ sym starts_y.told

    pub same_words : refusal x.told ≡ 0 → x.after ≡ y.after
    same_words taken =
        fresh_words x starts_x taken
        ∙ ap (λ given. words_of (start_of given).shelf) same
        ∙ sym (fresh_words y starts_y (sym (ap refusal same_told) ∙ taken))

    -- Demand 3 of the runs that they begin
    pub begun_demand_3 : StartFits x.asked.table x.asked.identifier → refusal x.told ≡ 0
        → (g : ℕ) (one other : List (Asks A)) → All (Go coded) one → All (Go coded) other
        → RunFrom x.after one → RunFrom y.after other → AllFit (operations one) → AllFit (operations other)
        → remains g (start_of x.asked).shelf (operations one) ≡ remains g (start_of x.asked).shelf (operations other)
        → got g one ≡ got g other
    begun_demand_3 fit taken g one other go_one go_other from_one from_other fits_one fits_other remain =
        let from : RunFrom x.after other = subst⁻¹ (λ ws. RunFrom ws other) (same_words taken) from_other in
        let s : Shelf = (start_of x.asked).shelf in
        let started : start_of x.asked ≡ record { taken = Ok tt; shelf = s } =
        ap (λ (t : Taken). record { taken = t; shelf = s }) (done x starts_x taken) in
        begun_answers x starts_x taken fit one go_one from_one fits_one g
        ∙ ap (map (coded_told coded)) (demand_3 _ _ _ _ s started g (operations one) (operations other) remain)
        ∙ sym (begun_answers x starts_x taken fit other go_other from fits_other g)
