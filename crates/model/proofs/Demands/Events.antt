-- What an event report that is taken does to the shelf, number by number, in plain logic: to its phy's monitors, error counts and
-- Expander 1h. Every other phy, and every number that is not named, is as it was. And what is said here settles the shelf: no two
-- shelves are left by one report. (A refused report leaves the shelf: `Refusals`, `event_refusal`.) Assumes nothing.
use Prim.Native.Nat.{ℕ, ◌+◌, ◌-◌, ◌%◌, ◌^◌, ◌<◌, min, max}
use native.Mathlib.Omega.{arith}
use mathlib.Core.Path.{◌≡◌, refl, sym, ap, ◌∙◌}
use mathlib.Core.Logic.{⊎_elim}
use mathlib.Core.Bool.{Bool, true, false}
use mathlib.Core.List.{List, map}
use borrow.Author.Tests.{eqb-true, eqb-false, eq-eqb, ne_eqb}
use lib.Dec.{T, eqb}
use lib.ListN.{length, get_or, length-map, get_or-map}
use lib.Seq.{ext_get_or, get_or-set_same, get_or-set_other}
use Rattle.model.specs.declared.Monitor.{Monitor}
use Rattle.model.specs.declared.Phy.{Phy}
use Rattle.model.specs.declared.Shelf.{Shelf}
use Rattle.model.specs.Answers.{told_cut}
use Rattle.model.specs.Counting.{originate_times, counted, crossed, add_error, event_on}
use Rattle.model.specs.Fits.{Placed}
use Rattle.model.specs.Reply.{error_at, monitor_at}
use Rattle.model.specs.Reports.{event_taken, event}
use Rattle.model.specs.Runs.{Started}
use Rattle.model.specs.Shelf.{exists, phy_at, monitor, phy_with, fresh_monitor, entry_of}
use Rattle.model.specs.Sources.{counting, peak, supported}
use Rattle.model.specs.Store.{store_all}
use Rattle.model.specs.Tests.{within}
use Rattle.model.proofs.Demands.Fits.{Four}
use Rattle.model.proofs.Demands.Invariant.{started_placed, phy_placed}
use Rattle.model.proofs.Laws.Checks.{counted_iff}
use Rattle.model.proofs.Laws.Places.{any_default}
use Rattle.model.proofs.Laws.Tests.{is_true, is_false, within_iff, within_true, cond_by, cond_both}
use Rattle.model.proofs.Plain.Counting.{add_error_length, Crossings, crossings_one, crossed_are}
use Rattle.model.proofs.Plain.Reports.{event_done}
use Rattle.model.proofs.Plain.Shelf.{OnlyPhy, same_shelf, put_same, put_only}
use Rattle.model.proofs.Plain.Store.{event_stores}
use Rattle.model.proofs.Plain.Sources.{supported_iff, counting_not_peak}

-- ---- what it says

-- What is afterwards is written out here, and not by the definitions of `specs/Counting`, which it is to check; but for `originate`.

-- "Each of the phy's monitors on that source changes: counting values wrap at 32 bits, peaks keep the larger."
pub record MonitorCounted (source amount : ℕ) (old new : Monitor) : Type 0 where
  pub same_source : new.source ≡ old.source
  pub same_threshold : new.threshold ≡ old.threshold
  pub on_another : (old.source ≡ source → ⊥) → new.value ≡ old.value
  pub wraps : old.source ≡ source → T (counting source) → new.value ≡ (old.value + amount) % 2 ^ 32
  pub larger : old.source ≡ source → T (peak source) → new.value ≡ max old.value amount

-- The phy x became y.
pub record PhyCounted (source amount : ℕ) (x y : Phy) : Type 0 where
  -- each of its four monitors
  pub monitors_number : length y.monitors ≡ 4
  pub monitors : (i : ℕ) → i < 4 → MonitorCounted source amount (monitor_at x i) (monitor_at y i)
  -- "Sources 01h to 04h also add to the four error counts in the order above, which stop at FFFFFFFFh."
  pub errors_number : length y.errors ≡ 4
  pub error_added : (k : ℕ) → k < 4 → source ≡ k + 1 → error_at y k ≡ min (error_at x k + amount) 0xFFFFFFFF
  pub error_kept : (k : ℕ) → k < 4 → (source ≡ k + 1 → ⊥) → error_at y k ≡ error_at x k
  -- ".. originates Expander 1h, once per monitor"
  pub crossed : List Monitor
  pub crossings : Crossings x.monitors y.monitors crossed
  pub expander1 : y.expander1 ≡ originate_times (length crossed) x.expander1
  -- and nothing else of it is another
  pub group : y.group ≡ x.group
  pub enabled : y.enabled ≡ x.enabled
  pub change0 : y.change0 ≡ x.change0
  pub expander2 : y.expander2 ≡ x.expander2

-- The shelf s became t: phy p is counted, and no other phy, nor any number that is device wide, is another. #101: each monitor that
-- crossed is stored, in monitor order, with its new value.
pub record ShelfCounted (s : Shelf) (p source amount : ℕ) (t : Shelf) : Type 0 where
  pub phy : PhyCounted source amount (phy_at s p) (phy_at t p)
  pub only : OnlyPhy s p t
  pub changes : t.changes ≡ s.changes
  pub store : t.store ≡ store_all s.store (map (entry_of p) phy.crossed)

-- ---- one monitor

counted_monitor : (source amount : ℕ) (m : Monitor) → MonitorCounted source amount m (counted source amount m)
unfolding counted
counted_monitor source amount m =
    record {
      same_source = cond_both (λ (n : Monitor). n.source ≡ m.source) (eqb m.source source) _ _ refl refl;
      same_threshold = cond_both (λ (n : Monitor). n.threshold ≡ m.threshold) (eqb m.source source) _ _ refl refl;
      on_another = λ other. rw (ne_eqb m.source source other);
      wraps = λ e c. rw (eq-eqb m.source source e, is_false (peak source) (counting_not_peak source c));
      larger = λ e top. rw (eq-eqb m.source source e, is_true (peak source) top);
    }

-- what is said of it settles it, as a supported source is counting or peak
monitor_one : {source amount : ℕ} {m a b : Monitor} → T (supported source)
    → MonitorCounted source amount m a → MonitorCounted source amount m b → a ≡ b
monitor_one {source} {amount} {m} {a} {b} known x y =
    let whole : (n : Monitor) → n ≡ monitor n.source n.value n.threshold = λ n. refl in
    let value : a.value ≡ b.value = valued (eqb m.source source) refl in
    cc (whole a, whole b)
  where
    valued : (on : Bool) → eqb m.source source ≡ on → a.value ≡ b.value
    valued true e =
        let on : m.source ≡ source = eqb-true m.source source e in
        ⊎_elim (λ c. x.wraps on c ∙ sym (y.wraps on c)) (λ top. x.larger on top ∙ sym (y.larger on top))
        ((supported_iff source).0 known)
    valued false e =
        let off : m.source ≡ source → ⊥ = eqb-false m.source source e in
        x.on_another off ∙ sym (y.on_another off)

-- ---- the error counts

module _ (source amount : ℕ) (errors : List ℕ) where
  added_there : length errors ≡ 4 → (k : ℕ) → k < 4 → source ≡ k + 1
      → get_or (add_error source amount errors) k 0 ≡ min (get_or errors k 0 + amount) 0xFFFFFFFF
  unfolding add_error
  added_there four k below e =
      let place : source - 1 ≡ k = omega arith in
      rw (
        is_true (within 0x01 0x04 source) ((within_iff 0x01 0x04 source).1 (omega arith, omega arith)),
        place,
        get_or-set_same errors k _ 0 (omega arith),
      )

  kept_there : (k : ℕ) → (source ≡ k + 1 → ⊥) → get_or (add_error source amount errors) k 0 ≡ get_or errors k 0
  unfolding add_error
  kept_there k other =
      cond_by (λ (es : List ℕ). get_or es k 0 ≡ get_or errors k 0) (within 0x01 0x04 source) _ _
      (λ e.
      let (low, _) = within_true 0x01 0x04 source e in
      get_or-set_other errors (source - 1) k _ 0 (λ same. other (omega arith)))
      (λ e. refl)

-- ---- the phy

event_counted : (source amount : ℕ) (x y : Phy) → y ≡ (event_on source amount x).phy → Four x → PhyCounted source amount x y
unfolding event_on
event_counted source amount x y made (four_errors, four_monitors) =
    let new : List Monitor = map (counted source amount) x.monitors in
    let size : length new ≡ 4 = length-map x.monitors (counted source amount) ∙ four_monitors in
    record {
      monitors_number = rw made size;
      monitors = λ i below. rw (made, counted_there i (rw size below)) (counted_monitor source amount (monitor_at x i));
      errors_number = rw made (add_error_length source amount x.errors ∙ four_errors);
      error_added = rw made (added_there source amount x.errors four_errors);
      error_kept = rw made (λ k below. kept_there source amount x.errors k);
      crossed = crossed source amount x.monitors;
      crossings = rw made (crossed_are source amount x.monitors);
      expander1 = rw made;
      group = rw made;
      enabled = rw made;
      change0 = rw made;
      expander2 = rw made;
    }
  where
    counted_there : (i : ℕ) → i < length (map (counted source amount) x.monitors)
        → get_or (map (counted source amount) x.monitors) i fresh_monitor ≡ counted source amount (monitor_at x i)
    counted_there i h =
        any_default (map (counted source amount) x.monitors) i fresh_monitor (counted source amount fresh_monitor) h
        ∙ get_or-map (counted source amount) x.monitors i fresh_monitor

phy_one : {source amount : ℕ} {x y z : Phy} → T (supported source)
    → PhyCounted source amount x y → PhyCounted source amount x z → y ≡ z
phy_one {source} {amount} {x} {y} {z} known a b =
    let whole : (w : Phy) → w ≡ phy_with w w.enabled w.errors w.monitors w.change0 w.expander1 w.expander2 = λ w. refl in
    let monitors : y.monitors ≡ z.monitors =
    ext_get_or fresh_monitor _ _ (a.monitors_number ∙ sym b.monitors_number)
    (λ i h.
    let below : i < 4 = rw a.monitors_number at h in
    monitor_one known (a.monitors i below) (b.monitors i below)) in
    let errors : y.errors ≡ z.errors =
    ext_get_or 0 _ _ (a.errors_number ∙ sym b.errors_number)
    (λ k h. error_one k (rw a.errors_number at h) (eqb source (k + 1)) refl) in
    let crossed : a.crossed ≡ b.crossed = crossings_one a.crossings (rw monitors b.crossings) in
    cc (whole y, whole z)
  where
    error_one : (k : ℕ) → k < 4 → (on : Bool) → eqb source (k + 1) ≡ on → error_at y k ≡ error_at z k
    error_one k below true e =
        let on : source ≡ k + 1 = eqb-true source (k + 1) e in
        a.error_added k below on ∙ sym (b.error_added k below on)
    error_one k below false e =
        let off : source ≡ k + 1 → ⊥ = eqb-false source (k + 1) e in
        a.error_kept k below off ∙ sym (b.error_kept k below off)

-- ---- the shelf

-- an event report that is taken, of every shelf whose arrays have their places
pub placed_event_effect : (s : Shelf) → Placed s → (p source amount : ℕ) {cut : Bool} → (event s p source amount).answer ≡ told_cut cut
    → ShelfCounted s p source amount (event s p source amount).shelf
unfolding event event_on event_counted
placed_event_effect s placed p source amount {cut} told =
    let (taken, _) = (counted_iff (event_taken (exists s p) source amount) _ cut).0 told in
    let (h, four) = phy_placed s p placed ((event_done s p source amount).0 taken).phy_exists in
    rw taken
    (record {
      phy = event_counted source amount (phy_at s p) _ (put_same s p (event_on source amount (phy_at s p)).phy s.changes h) four;
      only = put_only s p _ _;
      changes = refl;
      store = event_stores s.store p source amount (phy_at s p);
    })

-- For every started shelf, after any operations, and every event report that is taken.
pub event_effect : (s : Shelf) → Started s → (p source amount : ℕ) {cut : Bool} → (event s p source amount).answer ≡ told_cut cut
    → ShelfCounted s p source amount (event s p source amount).shelf
event_effect s started = placed_event_effect s (started_placed s started)

-- no two shelves are left by one report, whose source is supported
pub event_one_shelf : {s t u : Shelf} {p source amount : ℕ} → T (supported source)
    → ShelfCounted s p source amount t → ShelfCounted s p source amount u → t ≡ u
event_one_shelf {p = p} known a b =
    let same = phy_one known a.phy b.phy in
    let monitors = ap (λ y. y.monitors) same in
    let crossed : a.phy.crossed ≡ b.phy.crossed = crossings_one a.phy.crossings (rw monitors b.phy.crossings) in
    same_shelf a.only b.only same (a.changes ∙ sym b.changes) (cc (a.store, b.store, crossed))
