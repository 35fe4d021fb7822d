-- A start gives a shelf whose numbers fit their widths, with 1 to 24 phys, groups up to 31, a legal table, a change count that is not
-- 0000h, and stored peak events whose indexes run in a row, and every operation keeps that, where what they are given has its sizes and widths. That a shelf's arrays have their places holds
-- whatever they are given. Assumes nothing.
use Rattle.std.specs.Prelude.{Ok}
use Prim.Native.Nat.{ℕ, ◌≤◌, ◌<◌, zero-le}
use native.Mathlib.Omega.{arith}
use mathlib.Core.Path.{◌≡◌, refl, subst, ◌∙◌}
use mathlib.Core.Bool.{Bool}
use mathlib.Core.List.{List, [], ◌∷◌}
use borrow.Author.Tests.{ltb-true}
use lib.Dec.{T, ltb}
use lib.ListN.{length, get_or}
use Rattle.model.specs.declared.Effect.{Effect}
use Rattle.model.specs.declared.Phy.{Phy}
use Rattle.model.specs.declared.Shelf.{Shelf}
use Rattle.model.specs.Counting.{originate_if}
use Rattle.model.specs.Fits.{EntryFits, StoreFits, Fits, Placed, StartFits, OperationFits, AllFit, InARow, Sound}
use Rattle.model.specs.Reach.{reaches}
use Rattle.model.specs.Runs.{Operation, Ask, Event, LinkChange, ReducedFunctionality, Ses, QueryReach, next, after}
use Rattle.model.specs.Request.{asked}
use Rattle.model.specs.Runs.{Started}
use Rattle.model.specs.Store.{entries_of}
use Rattle.model.specs.Shelf.{exists, phy_at, start_group, fresh_shelf, no_shelf, start_taken, start}
use Rattle.model.proofs.Demands.Fits.{FitsOn, KeepsFit, fresh_fits, Four, KeepsFour, event_four, change_four, control_four}
use Rattle.model.proofs.Demands.Fits.{configure_four, originated_fits, originated_present, event_keeps, change_keeps, control_keeps}
use Rattle.model.proofs.Demands.Fits.{configure_keeps, entries_fit, store_fits, store_in_a_row, fresh_store_fits}
use Rattle.model.proofs.Laws.Checks.{every_outcome}
use Rattle.model.proofs.Laws.PhyChanges.{every_write}
use Rattle.model.proofs.Laws.Places.{All}
use Rattle.model.proofs.Laws.Steps.{Step, KeptBy, every_change, next_step, step_fixed, step_phys, DeviceCounts, step_counts}
use Rattle.model.proofs.Laws.Steps.{step_store, SameZones, next_zones}
use Rattle.model.proofs.Laws.Tests.{cond_by}
use Rattle.model.proofs.Plain.Reach.{exists_iff, reaches_nothing}
use Rattle.model.proofs.Plain.Shelf.{SameFixed}
use Rattle.model.proofs.Plain.Start.{Startable, start_done, fresh_size, fresh_phys_lem}
use Rattle.model.proofs.Plain.Zone.{legal_table_lem}

-- ---- every operation keeps it

fit_kept : (operation : Operation) → OperationFits operation → KeptBy KeepsFit operation
fit_kept (Ask g frame out) fit = every_write KeepsFit frame control_keeps (configure_keeps frame fit) (asked frame)
fit_kept (Event p source amount) fit = event_keeps source amount fit
fit_kept (LinkChange p) fit = λ x. change_keeps x.enabled x
fit_kept ReducedFunctionality fit = tt
fit_kept Ses fit = tt
fit_kept (QueryReach g) fit = tt

count_fits : (before after : ℕ) → (b : Bool) × (after ≡ originate_if b before) → before ≤ 0xFFFF → after ≤ 0xFFFF
count_fits before after (b, e) h = rw e (originated_fits b before h)

-- what is stored of a phy that exists fits
stored_fit : (s : Shelf) → Fits s → (p : ℕ) (f : Phy → Effect) → T (exists s p) → KeepsFit f → All EntryFits (entries_of p (f (phy_at s p)))
stored_fit s fits p f there keeps =
    let (_, below) = (exists_iff s p).0 there in
    entries_fit p below (f (phy_at s p)) (keeps (phy_at s p) (fits.phys p below)).1.1

module _ (s t : Shelf) (step : Step KeepsFit s t) where
  step_fits : Fits s → Fits t
  step_fits f =
      let fixed : SameFixed s t = step_fixed KeepsFit s t step in
      let counts : DeviceCounts s t = step_counts KeepsFit s t step in
      record {
        number = rw fixed.number f.number;
        phys_size = counts.size ∙ f.phys_size;
        phys = λ p below.
            step_phys KeepsFit FitsOn (λ x fit. fit) (λ h keeps x y kept fit. (keeps y (kept fit)).0) s t step p (f.phys p below);
        table_size = rw fixed.table f.table_size;
        table = rw fixed.table f.table;
        identifier_size = rw fixed.identifier f.identifier_size;
        identifier = rw fixed.identifier f.identifier;
        changes = count_fits s.changes t.changes counts.changes f.changes;
        expander3 = count_fits s.expander3 t.expander3 counts.expander3 f.expander3;
        ses0 = count_fits s.ses0 t.ses0 counts.ses0 f.ses0;
        store = step_store KeepsFit StoreFits EntryFits store_fits s t (stored_fit s f) step f.store;
      }

  -- the stored peak events fit, and have indexes in a row
  step_row : Fits s → InARow s.store → InARow t.store
  step_row f row =
      (step_store KeepsFit (λ k. StoreFits k × InARow k) EntryFits
      (λ k e entry (fits, before). (store_fits k e entry fits, store_in_a_row k e fits.last before))
      s
      t
      (stored_fit s f)
      step
      (f.store, row)
      ).1

  step_present : Fits s → 1 ≤ s.changes → 1 ≤ t.changes
  step_present f some =
      let (b, e) = (step_counts KeepsFit s t step).changes in
      rw e (originated_present b s.changes f.changes some)

pub next_fits : (s : Shelf) (o : Operation) → OperationFits o → Fits s → Fits (next s o)
next_fits s o fit = step_fits s (next s o) (next_step KeepsFit s o (fit_kept o fit))

pub next_sound : (s : Shelf) (o : Operation) → OperationFits o → Sound s → Sound (next s o)
next_sound s o fit sound =
    let step : Step KeepsFit s (next s o) = next_step KeepsFit s o (fit_kept o fit) in
    let zones : SameZones s (next s o) = next_zones s o in
    record {
      fits = step_fits s (next s o) step sound.fits;
      number = rw zones.fixed.number sound.number;
      groups = λ p below. rw (zones.groups p) (sound.groups p below);
      legal = rw zones.fixed.table sound.legal;
      present = step_present s (next s o) step sound.fits sound.present;
      in_a_row = step_row s (next s o) step sound.fits sound.in_a_row;
    }

pub after_sound : (s : Shelf) (operations : List Operation) → AllFit operations → Sound s → Sound (after s operations)
unfolding after
after_sound s [] fit sound = sound
after_sound s (operation ∷ operations) fit sound =
    after_sound (next s operation) operations fit.1 (next_sound s operation fit.0 sound)

-- ---- a start gives it

start_group_fits : (n : ℕ) (groups : List ℕ) → ((p : ℕ) → p < n → get_or groups p 0 ≤ 31) → (p : ℕ)
    → start_group n groups p ≤ 31
start_group_fits n groups fit p = cond_by (λ g. g ≤ 31) (ltb p n) _ _ (λ e. fit p (ltb-true p n e)) (λ e. zero-le)

fresh_sound : (n : ℕ) (groups table identifier : List ℕ) → StartFits table identifier → Startable n groups table
    → Sound (fresh_shelf n groups table identifier)
unfolding fresh_shelf
fresh_sound n groups table identifier fit can =
    let group : (p : ℕ) → start_group n groups p ≤ 31 = start_group_fits n groups can.groups_all_fit in
    record {
      fits =
          record {
            number = omega arith;
            phys_size = fresh_size n groups;
            phys = λ p below.
                rw (fresh_phys_lem n groups table identifier p below) (fresh_fits (start_group n groups p) (group p));
            table_size = fit.table_size;
            table = fit.table_fits;
            identifier_size = fit.identifier_size;
            identifier = fit.identifier_fits;
            changes = omega arith;
            expander3 = omega arith;
            ses0 = omega arith;
            store = fresh_store_fits;
          };
      number = can.number;
      groups = λ p below. rw (fresh_phys_lem n groups table identifier p below) (group p);
      legal = (legal_table_lem table).1 can.legal;
      present = omega arith;
      in_a_row = record { few = λ l. refl; full = λ l. absurd (omega arith) };
    }

pub start_sound : (n : ℕ) (groups table identifier : List ℕ) → StartFits table identifier
    → start_taken n groups table ≡ Ok tt → Sound (start n groups table identifier).shelf
unfolding start
start_sound n groups table identifier fit done =
    rw done (fresh_sound n groups table identifier fit ((start_done n groups table).0 done))

-- so a started shelf has it, after any operations
pub started_sound : (s : Shelf) (started : Started s) → StartFits started.table started.identifier
    → AllFit started.operations → Sound s
started_sound s started fit all =
    subst Sound started.now
    (after_sound _ started.operations all
    (start_sound started.number started.groups started.table started.identifier fit started.done))

-- ---- and in it a source group above 31 reaches nothing

pub above_31 : (s : Shelf) (g p : ℕ) → Fits s → 31 < g → T (reaches s g p) → ⊥
above_31 s g p fits above = reaches_nothing s g p (omega arith)

-- ---- The sizes alone: they are there after every start and every operation, whatever these are given.

four_kept : (operation : Operation) → KeptBy KeepsFour operation
four_kept = every_change KeepsFour control_four configure_four event_four (λ x. change_four x.enabled x)

pub next_placed : (s : Shelf) (operation : Operation) → Placed s → Placed (next s operation)
next_placed s operation placed =
    let step : Step KeepsFour s (next s operation) = next_step KeepsFour s operation (four_kept operation) in
    let four : (p : ℕ) → Four (phy_at s p) → Four (phy_at (next s operation) p) =
    step_phys KeepsFour (λ x y. Four x → Four y) (λ x f. f) (λ h keeps x y kept f. keeps y (kept f)) s (next s operation) step in
    record {
      phys = (step_counts KeepsFour s (next s operation) step).size ∙ placed.phys;
      errors = λ p below. (four p (placed.errors p below, placed.monitors p below)).0;
      monitors = λ p below. (four p (placed.errors p below, placed.monitors p below)).1;
    }

pub after_placed : (s : Shelf) (operations : List Operation) → Placed s → Placed (after s operations)
unfolding after
after_placed s [] placed = placed
after_placed s (operation ∷ operations) placed = after_placed (next s operation) operations (next_placed s operation placed)

fresh_placed : (n : ℕ) (groups table identifier : List ℕ) → Placed (fresh_shelf n groups table identifier)
unfolding fresh_shelf
fresh_placed n groups table identifier =
    record {
      phys = fresh_size n groups;
      errors = λ p below. rw (fresh_phys_lem n groups table identifier p below);
      monitors = λ p below. rw (fresh_phys_lem n groups table identifier p below);
    }

pub start_placed : (n : ℕ) (groups table identifier : List ℕ) → Placed (start n groups table identifier).shelf
unfolding start no_shelf
start_placed n groups table identifier =
    every_outcome Placed (start_taken n groups table) no_shelf _ (fresh_placed _ _ _ _) (λ done. fresh_placed n groups table identifier)

-- so a started shelf has them, after any operations
pub started_placed : (s : Shelf) → Started s → Placed s
started_placed s started =
    subst Placed started.now
    (after_placed _ started.operations (start_placed started.number started.groups started.table started.identifier))

-- and every shelf whose numbers fit
pub fits_placed : (s : Shelf) → Fits s → Placed s
fits_placed s f =
    record {
      phys = f.phys_size;
      errors = λ p below. (f.phys p below).errors_size;
      monitors = λ p below. (f.phys p below).monitors_size;
    }

-- there a phy that exists stands in the array, with its four error counts and its four monitors
pub phy_placed : (s : Shelf) (p : ℕ) → Placed s → T (exists s p) → (p < length s.phys) × Four (phy_at s p)
phy_placed s p placed there =
    let (_, below) = (exists_iff s p).0 there in
    (omega arith, (placed.errors p below, placed.monitors p below))
