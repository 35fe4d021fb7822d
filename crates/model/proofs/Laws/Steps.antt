-- Every operation takes one of three steps: the shelf stays, or one phy is changed, or a count under FFh moves. So what each change of a
-- phy keeps, every operation keeps. Assumes nothing.
use Prim.Native.Nat.{ℕ}
use mathlib.Core.Path.{◌≡◌, refl, ◌∙◌}
use mathlib.Core.Bool.{Bool, true, false}
use mathlib.Core.List.{List}
use lib.Dec.{T}
use lib.ListN.{length, length-set}
use Rattle.model.specs.declared.Effect.{Effect}
use Rattle.model.specs.declared.Entry.{Entry}
use Rattle.model.specs.declared.Phy.{Phy}
use Rattle.model.specs.declared.Shelf.{Shelf}
use Rattle.model.specs.declared.Store.{Store}
use Rattle.model.specs.Counting.{originate_if, event_on}
use Rattle.model.specs.Reports.{event_taken, event, link_change_taken, link_change_on, link_change, reduced_functionality, ses_notice}
use Rattle.model.specs.Request.{asked}
use Rattle.model.specs.Results.{grounds}
use Rattle.model.specs.Runs.{Operation, Ask, Event, LinkChange, ReducedFunctionality, Ses, QueryReach, next}
use Rattle.model.specs.Shelf.{no_phy, exists, phy_at, put_device}
use Rattle.model.specs.Store.{store, entries_of, carried_out}
use Rattle.model.specs.Writes.{controlled, configured, Doing, Reads, WritesTo, doing, done, effect}
use Rattle.model.proofs.Laws.Checks.{Granting, outcome_taken, every_outcome}
use Rattle.model.proofs.Laws.Handled.{handled_all, accepted_decided}
use Rattle.model.proofs.Laws.PhyChanges.{OfWrite, every_write, write_granted, event_inner, link_change_inner, configured_inner}
use Rattle.model.proofs.Laws.PhyChanges.{controlled_inner}
use Rattle.model.proofs.Laws.Places.{All, change_at}
use Rattle.model.proofs.Plain.Reports.{event_done, link_change_done}
use Rattle.model.proofs.Plain.Shelf.{SameFixed, with_fixed}
use Rattle.model.proofs.Plain.Store.{store_each}

-- From s to t. Of what is done to a phy, what is asked holds.
pub data Step (Keeps : (Phy → Effect) → Type 0) (s t : Shelf) : Type 0 where
  Stays : t ≡ s → Step Keeps s t
  ChangesPhy : (p : ℕ) (f : Phy → Effect) → T (exists s p) → Keeps f → t ≡ carried_out s p (f (phy_at s p)) → Step Keeps s t
  CountsNotice : (a b : Bool) → t ≡ put_device s (originate_if a s.expander3) (originate_if b s.ses0) → Step Keeps s t

-- what is asked of whatever an operation may do to a phy
abbrev pub KeptBy : ((Phy → Effect) → Type 0) → Operation → Type 0
KeptBy Keeps (Ask g frame out) = OfWrite (λ p. Keeps) (doing frame (asked frame))
KeptBy Keeps (Event p source amount) = Keeps (event_on source amount)
KeptBy Keeps (LinkChange p) = Keeps link_change_on
KeptBy Keeps ReducedFunctionality = Unit {0}
KeptBy Keeps Ses = Unit {0}
KeptBy Keeps (QueryReach g) = Unit {0}

-- what holds of each of the four holds of whatever an operation does
pub every_change : (Keeps : (Phy → Effect) → Type 0) → ((operation : ℕ) → Keeps (controlled operation))
    → ((frame : List ℕ) (d : ℕ) (clear : Bool) → Keeps (configured frame d clear))
    → ((source amount : ℕ) → Keeps (event_on source amount)) → Keeps link_change_on → (operation : Operation) → KeptBy Keeps operation
every_change Keeps control configure event change (Ask g frame out) = every_write Keeps frame control (configure frame) (asked frame)
every_change Keeps control configure event change (Event p source amount) = event source amount
every_change Keeps control configure event change (LinkChange p) = change
every_change Keeps control configure event change ReducedFunctionality = tt
every_change Keeps control configure event change Ses = tt
every_change Keeps control configure event change (QueryReach g) = tt

module _ (Keeps : (Phy → Effect) → Type 0) (s : Shelf) where
  done_step : (g : ℕ) (does : Doing) → OfWrite (λ p. Keeps) does → OfWrite (λ p f. Granting (grounds s g p)) does
      → Step Keeps s (done s does)
  done_step g Reads keeps granted = Stays refl
  done_step g (WritesTo p f) keeps granted = ChangesPhy p f (rw granted.0 tt) keeps refl

  pub next_step : (operation : Operation) → KeptBy Keeps operation → Step Keeps s (next s operation)
  unfolding next event link_change reduced_functionality ses_notice effect
  next_step (Ask g frame out) keeps =
      handled_all (λ h. Step Keeps s h.shelf) s g frame (length out) (λ house. Stays refl) (Stays refl)
      (λ e. done_step g (doing frame (asked frame)) keeps (write_granted s g frame (asked frame) (accepted_decided s g frame e).2))
  next_step (Event p source amount) keeps =
      every_outcome (Step Keeps s) (event_taken (exists s p) source amount) s _ (Stays refl)
      (λ done. ChangesPhy p (event_on source amount) ((event_done s p source amount).0 done).phy_exists keeps refl)
  next_step (LinkChange p) keeps =
      every_outcome (Step Keeps s) (link_change_taken (exists s p)) s _ (Stays refl)
      (λ done. ChangesPhy p link_change_on ((link_change_done s p).0 (outcome_taken _ s _ ∙ done)) keeps refl)
  next_step ReducedFunctionality keeps = CountsNotice true false refl
  next_step Ses keeps = CountsNotice false true refl
  next_step (QueryReach g) keeps = Stays refl

-- What no step changes: the phy number, the table and the identifier.
pub step_fixed : (Keeps : (Phy → Effect) → Type 0) (s t : Shelf) → Step Keeps s t → SameFixed s t
step_fixed Keeps s t (Stays e) = rw e (with_fixed s)
step_fixed Keeps s t (ChangesPhy p f there keeps e) = rw e (with_fixed s)
step_fixed Keeps s t (CountsNotice a b e) = rw e (with_fixed s)

-- What holds between a phy and itself, and still after each change, holds between each phy before the step and after it.
pub step_phys : (Keeps : (Phy → Effect) → Type 0) (R : Phy → Phy → Type 0) → ((x : Phy) → R x x)
    → ((f : Phy → Effect) → Keeps f → (x y : Phy) → R x y → R x (f y).phy)
    → (s t : Shelf) → Step Keeps s t → (q : ℕ) → R (phy_at s q) (phy_at t q)
step_phys Keeps R same on s t (Stays e) q = rw e (same (phy_at s q))
step_phys Keeps R same on s t (ChangesPhy p f there keeps e) q =
    let x : Phy = phy_at s q in
    rw e (change_at (R x) no_phy (λ y. (f y).phy) (on f keeps x) s.phys p q (same x))
step_phys Keeps R same on s t (CountsNotice a b e) q = rw e (same (phy_at s q))

-- There are as many phys as before, and each device wide count is originated, or not.
pub record DeviceCounts (s t : Shelf) : Type 0 where
  pub size : length t.phys ≡ length s.phys
  pub changes : (b : Bool) × (t.changes ≡ originate_if b s.changes)
  pub expander3 : (b : Bool) × (t.expander3 ≡ originate_if b s.expander3)
  pub ses0 : (b : Bool) × (t.ses0 ≡ originate_if b s.ses0)

pub step_counts : (Keeps : (Phy → Effect) → Type 0) (s t : Shelf) → Step Keeps s t → DeviceCounts s t
step_counts Keeps s t (Stays e) =
    rw e (record { size = refl; changes = (false, refl); expander3 = (false, refl); ses0 = (false, refl) })
step_counts Keeps s t (ChangesPhy p f there keeps e) =
    rw e
    (record {
      size = length-set s.phys p (f (phy_at s p)).phy;
      changes = ((f (phy_at s p)).change, refl);
      expander3 = (false, refl);
      ses0 = (false, refl);
    })
step_counts Keeps s t (CountsNotice a b e) =
    rw e (record { size = refl; changes = (false, refl); expander3 = (a, refl); ses0 = (b, refl) })

-- What holds of the stored peak events, and still after one more entry is stored, holds after the step, if it is asked of every entry.
pub step_store : (Keeps : (Phy → Effect) → Type 0) (P : Store → Type 0) (Q : Entry → Type 0)
    → ((k : Store) (e : Entry) → Q e → P k → P (store k e))
    → (s t : Shelf) → ((p : ℕ) (f : Phy → Effect) → T (exists s p) → Keeps f → All Q (entries_of p (f (phy_at s p))))
    → Step Keeps s t → P s.store → P t.store
step_store Keeps P Q one s t asked (Stays e) holds = rw e holds
step_store Keeps P Q one s t asked (ChangesPhy p f there keeps e) holds =
    rw e (store_each P Q one s.store (entries_of p (f (phy_at s p))) (asked p f there keeps) holds)
step_store Keeps P Q one s t asked (CountsNotice a b e) holds = rw e holds

-- ---- So who reaches what stays as it was, all through a run.

pub record SameZones (s t : Shelf) : Type 0 where
  pub fixed : SameFixed s t
  pub groups : (p : ℕ) → (phy_at t p).group ≡ (phy_at s p).group

pub zones_same : (s : Shelf) → SameZones s s
zones_same s = record { fixed = with_fixed s; groups = λ p. refl }

pub zones_on : (s t u : Shelf) → SameZones s t → SameZones t u → SameZones s u
zones_on s t u first then =
    record {
      fixed =
          record {
            number = then.fixed.number ∙ first.fixed.number;
            table = then.fixed.table ∙ first.fixed.table;
            identifier = then.fixed.identifier ∙ first.fixed.identifier;
          };
      groups = λ p. then.groups p ∙ first.groups p;
    }

abbrev KeepsGroup : (Phy → Effect) → Type 0
KeepsGroup f = (x : Phy) → (f x).phy.group ≡ x.group

group_kept : (operation : Operation) → KeptBy KeepsGroup operation
group_kept =
    every_change KeepsGroup (λ operation. (controlled_inner operation).group) (λ frame d clear. (configured_inner frame d clear).group)
    (λ source amount. (event_inner source amount).group)
    link_change_inner.group

pub next_zones : (s : Shelf) (operation : Operation) → SameZones s (next s operation)
next_zones s operation =
    let step : Step KeepsGroup s (next s operation) = next_step KeepsGroup s operation (group_kept operation) in
    record {
      fixed = step_fixed KeepsGroup s (next s operation) step;
      groups =
          step_phys KeepsGroup (λ x y. y.group ≡ x.group) (λ x. refl) (λ f keeps x y e. keeps y ∙ e) s (next s operation) step;
    }
