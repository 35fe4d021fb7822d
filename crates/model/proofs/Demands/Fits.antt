-- What happens to one phy keeps the sizes and widths of its record (`specs/Fits`). Assumes nothing.
use Prim.Native.Nat.{ℕ, zero, suc, ◌+◌, ◌≤◌, ◌<◌}
use native.Mathlib.Nat.{zero-add}
use native.Mathlib.Omega.{arith}
use mathlib.Core.Path.{◌≡◌, refl, sym, ap, ◌∙◌}
use mathlib.Core.Bool.{Bool, true, false}
use mathlib.Core.List.{List, [], ◌∷◌, map}
use borrow.Author.Tests.{ltb-true, ltb-false}
use lib.Dec.{ltb, eqb}
use lib.ListN.{length, get_or, replicate, length-map, length-set, get_or-eq_default}
use Rattle.std.specs.Prelude.{Option, None}
use Rattle.model.specs.declared.Effect.{Effect}
use Rattle.model.specs.declared.Entry.{Entry}
use Rattle.model.specs.declared.Monitor.{Monitor}
use Rattle.model.specs.declared.Phy.{Phy}
use Rattle.model.specs.declared.Store.{Store}
use Rattle.model.specs.Bytes.{dword}
use Rattle.model.specs.Counting.{originate, originate_if, originate_times, add_saturating, counted, marked, stored_ones, crossings, crossed, add_error, event_on}
use Rattle.model.specs.Counting.{quiet, change_on}
use Rattle.model.specs.Fits.{BytesFit, MonitorFits, PhyFits, EntryFits, StoreFits, InARow}
use Rattle.model.specs.Shelf.{phy_with, fresh_monitor, fresh_phy, entry_of, no_entry, fresh_store}
use Rattle.model.specs.Sources.{peak}
use Rattle.model.specs.Store.{place, count_on, store, entries_of}
use Rattle.model.specs.Tests.{within}
use Rattle.model.specs.Writes.{without_errors, controlled, set_monitor, set_monitors, set_on, clear_monitor, any_peak, peaks}
use Rattle.model.specs.Writes.{clear_on, configured}
use Rattle.model.proofs.Laws.Places.{All, Each, each_all, change_at, map_at, replicate_each}
use Rattle.model.proofs.Laws.Tests.{cond_by, cond_both}
use Rattle.model.proofs.Plain.Counting.{originate_adds, originate_range, add_error_length, picked_all, stored_marked}
use Rattle.model.proofs.Plain.Writes.{set_length, set_at_lem}

-- ---- counts

pub originated_fits : (b : Bool) (count : ℕ) → count ≤ 0xFFFF → originate_if b count ≤ 0xFFFF
originated_fits b count h = cond_both (λ n. n ≤ 0xFFFF) b _ _ (originate_range count h).1 h

pub originated_present : (b : Bool) (count : ℕ) → count ≤ 0xFFFF → 1 ≤ count → 1 ≤ originate_if b count
originated_present b count h some = cond_both (λ n. 1 ≤ n) b _ _ (originate_range count h).0 some

times_fit : (n count : ℕ) → count ≤ 0xFFFF → originate_times n count ≤ 0xFFFF
times_fit zero count h = h
times_fit (suc n) count h = times_fit n (originate count) (originate_range count h).1

-- ---- the four error counts

abbrev ErrorsFit : List ℕ → Type 0
ErrorsFit errors = (length errors ≡ 4) × Each (λ n. n ≤ 0xFFFFFFFF) 0 errors

no_errors_fit : ErrorsFit (replicate 4 0)
no_errors_fit = (refl, replicate_each (λ n. n ≤ 0xFFFFFFFF) 0 4 (omega arith))

add_error_fits : (source amount : ℕ) (errors : List ℕ) → ErrorsFit errors → ErrorsFit (add_error source amount errors)
unfolding add_error
add_error_fits source amount errors f = (
  add_error_length source amount errors ∙ f.0,
  cond_both (Each (λ n. n ≤ 0xFFFFFFFF) 0) (within 0x01 0x04 source) _ _
      (λ i. change_at (λ n. n ≤ 0xFFFFFFFF) 0 (λ n. (add_saturating n amount).number) (λ n h. omega arith) errors _ i (f.1 i))
      f.1,
)

-- ---- the four monitors

abbrev pub MonitorsFit : List Monitor → Type 0
MonitorsFit ms = (length ms ≡ 4) × Each MonitorFits fresh_monitor ms

map_fits : (h : Monitor → Monitor) → ((m : Monitor) → MonitorFits m → MonitorFits (h m)) → (ms : List Monitor)
    → MonitorsFit ms → MonitorsFit (map h ms)
map_fits h keeps ms f = (rw length-map f.0, λ i. map_at MonitorFits fresh_monitor h keeps ms i (f.1 i))

counted_fits : (source amount : ℕ) → amount ≤ 0xFFFFFFFF → (m : Monitor) → MonitorFits m
    → MonitorFits (counted source amount m)
unfolding counted
counted_fits source amount h m f =
    cond_both MonitorFits (eqb m.source source) _ _
    (record {
      source = f.source;
      value = cond_both (λ n. n ≤ 0xFFFFFFFF) (peak source) _ _ (omega arith) (omega arith);
      threshold = f.threshold;
    })
    f

clear_fits : (m : Monitor) → MonitorFits m → MonitorFits (clear_monitor m)
unfolding clear_monitor
clear_fits m f = cond_both MonitorFits (peak m.source) _ _ (omega arith) f

-- those that a 93h sets, from a frame whose bytes fit
module _ (frame : List ℕ) (fit : BytesFit frame) where
  dword_fits : (i : ℕ) → dword frame i ≤ 0xFFFFFFFF
  dword_fits i = omega (arith, fit i, fit (i + 1), fit (i + 2), fit (i + 2 + 1))

  set_monitor_fits : (i : ℕ) (m : Monitor) → MonitorFits m → MonitorFits (set_monitor frame i m)
  unfolding set_monitor
  set_monitor_fits i m f =
      record {
        source = fit _;
        value = cond_both (λ n. n ≤ 0xFFFFFFFF) (eqb m.source _) _ _ f.value (omega arith);
        threshold = dword_fits _;
      }

  set_each : (d : ℕ) (ms : List Monitor) → Each MonitorFits fresh_monitor ms
      → Each MonitorFits fresh_monitor (set_monitors frame d 0 ms)
  set_each d ms each j = go (ltb j (length ms)) refl
    where
      go : (b : Bool) → ltb j (length ms) ≡ b → MonitorFits (get_or (set_monitors frame d 0 ms) j fresh_monitor)
      go true e =
          rw (set_at_lem frame d ms 0 j j (zero-add j) (ltb-true j (length ms) e))
          (cond_both MonitorFits (ltb j d) _ _ (set_monitor_fits j (get_or ms j fresh_monitor) (each j)) (each j))
      go false e =
          let past : length (set_monitors frame d 0 ms) ≤ j = rw (set_length frame d 0 ms) (ltb-false j (length ms) e) in
          rw (get_or-eq_default (set_monitors frame d 0 ms) fresh_monitor {n = j} past) (omega arith)

  set_fits : (d : ℕ) (ms : List Monitor) → MonitorsFit ms → MonitorsFit (set_monitors frame d 0 ms)
  set_fits d ms f = (set_length frame d 0 ms ∙ f.0, set_each d ms f.1)

-- ---- one phy

-- x became y: its numbers fit if they did
abbrev pub FitsOn : Phy → Phy → Type 0
FitsOn x y = PhyFits x → PhyFits y

-- the four places of what is stored: the monitors that are there fit
abbrev pub StoredFit : List (Option Monitor) → Type 0
StoredFit stored = (length stored ≡ 4) × All MonitorFits (stored_ones stored)

-- what is done to a phy keeps that, and what may be stored of it fits
abbrev pub EffectFits : Phy → Effect → Type 0
EffectFits x e = PhyFits x → PhyFits e.phy × StoredFit e.stored

abbrev pub KeepsFit : (Phy → Effect) → Type 0
KeepsFit f = (x : Phy) → EffectFits x (f x)

marked_length : (marks : List Bool) (ms : List Monitor) → length marks ≡ length ms → length (marked marks ms) ≡ length ms
marked_length [] [] long = refl
marked_length [] (m ∷ ms) long = absurd (omega arith)
marked_length (mark ∷ marks) [] long = absurd (omega arith)
marked_length (mark ∷ marks) (m ∷ ms) long = ap suc (marked_length marks ms (omega arith))

-- what is stored of a phy whose monitors fit, when those stand that are marked
stored_fits : (marks : List Bool) (ms : List Monitor) → MonitorsFit ms → All MonitorFits (stored_ones (marked marks ms))
stored_fits marks ms f = rw (stored_marked marks ms) (picked_all MonitorFits marks ms (each_all MonitorFits fresh_monitor ms f.1))

-- .. in four places, by four marks
four_fit : (marks : List Bool) (ms : List Monitor) → length marks ≡ 4 → MonitorsFit ms → StoredFit (marked marks ms)
four_fit marks ms four f = (marked_length marks ms (four ∙ sym f.0) ∙ f.0, stored_fits marks ms f)

-- a change, and a write that clears nothing, store nothing
none_fit : StoredFit (replicate 4 None)
none_fit = (refl, tt)

-- other numbers in it, from what each keeps
fits_with : (x : Phy) {enabled : Bool} {errors : List ℕ} {ms : List Monitor} {change0 expander1 expander2 : ℕ}
    → (ErrorsFit x.errors → ErrorsFit errors)
    → (MonitorsFit x.monitors → MonitorsFit ms)
    → (x.change0 ≤ 0xFFFF → change0 ≤ 0xFFFF)
    → (x.expander1 ≤ 0xFFFF → expander1 ≤ 0xFFFF)
    → (x.expander2 ≤ 0xFFFF → expander2 ≤ 0xFFFF)
    → FitsOn x (phy_with x enabled errors ms change0 expander1 expander2)
fits_with x es fs c0 e1 e2 f =
    record {
      group = f.group;
      errors_size = (es (f.errors_size, f.errors)).0;
      errors = (es (f.errors_size, f.errors)).1;
      monitors_size = (fs (f.monitors_size, f.monitors)).0;
      monitors = (fs (f.monitors_size, f.monitors)).1;
      change0 = c0 f.change0;
      expander1 = e1 f.expander1;
      expander2 = e2 f.expander2;
    }

pub event_keeps : (source amount : ℕ) → amount ≤ 0xFFFFFFFF → KeepsFit (event_on source amount)
unfolding event_on
event_keeps source amount h x f =
    let after : PhyFits (event_on source amount x).phy =
    fits_with x (add_error_fits source amount x.errors)
    (map_fits (counted source amount) (counted_fits source amount h) x.monitors)
    (λ f. f)
    (times_fit (length (crossed source amount x.monitors)) x.expander1)
    (λ f. f)
    f in
    (after, four_fit (crossings source amount x.monitors) _ (length-map x.monitors _ ∙ f.monitors_size) (after.monitors_size, after.monitors))

pub change_keeps : (enabled : Bool) → KeepsFit (change_on enabled)
unfolding change_on
change_keeps enabled x f = (fits_with x (λ f. f) (λ f. f) (originated_fits true x.change0) (λ f. f) (λ f. f) f, none_fit)

without_errors_keeps : (x : Phy) → FitsOn x (without_errors x)
without_errors_keeps x = fits_with x (λ f. no_errors_fit) (λ f. f) (λ f. f) (λ f. f) (λ f. f)

-- what holds of each thing that a 91h may do to the phy
pub controlled_all : (P : Effect → Type 0) (operation : ℕ) (x : Phy) → P (quiet x) → ((enabled : Bool) → P (change_on enabled x))
    → P (quiet (without_errors x)) → P (controlled operation x)
unfolding controlled
controlled_all P operation x none change clear =
    cond_both P (eqb operation 0x01) _ _ (change true)
    (cond_both P (eqb operation 0x03) _ _
    (cond_both P x.enabled _ _ (change false) none)
    (cond_both P (eqb operation 0x05) _ _ clear
    none))

pub control_keeps : (operation : ℕ) → KeepsFit (controlled operation)
control_keeps operation x =
    controlled_all (EffectFits x) operation x (λ f. (f, none_fit)) (λ enabled. change_keeps enabled x)
    (λ f. (without_errors_keeps x f, none_fit))

set_keeps : (frame : List ℕ) → BytesFit frame → (d : ℕ) (x : Phy) → FitsOn x (set_on frame d x)
unfolding set_on
set_keeps frame fit d x =
    fits_with x (λ f. f) (set_fits frame fit d x.monitors) (λ f. f) (λ f. f) (λ f. f)

clear_keeps : KeepsFit clear_on
unfolding clear_on
clear_keeps x f = (
  fits_with x (λ f. f) (map_fits clear_monitor clear_fits x.monitors) (λ f. f) (λ f. f)
      (originated_fits (any_peak x.monitors) x.expander2)
      f,
  four_fit (peaks x.monitors) x.monitors (length-map x.monitors (λ m. peak m.source) ∙ f.monitors_size) (f.monitors_size, f.monitors),
)

pub configure_keeps : (frame : List ℕ) → BytesFit frame → (d : ℕ) (clear : Bool) → KeepsFit (configured frame d clear)
unfolding configured
configure_keeps frame fit d clear x =
    let set : FitsOn x (set_on frame d x) = set_keeps frame fit d x in
    cond_both (EffectFits x) clear _ _ (λ f. clear_keeps (set_on frame d x) (set f)) (λ f. (set f, none_fit))

-- ---- the stored peak events

entry_fits : (p : ℕ) → p < 24 → (ms : List Monitor) → All MonitorFits ms → All EntryFits (map (entry_of p) ms)
entry_fits p below [] all = tt
entry_fits p below (m ∷ ms) all = (record { phy = omega arith; monitor = all.0 }, entry_fits p below ms all.1)

-- what an effect stores of a phy that fits
pub entries_fit : (p : ℕ) → p < 24 → (e : Effect) → All MonitorFits (stored_ones e.stored) → All EntryFits (entries_of p e)
entries_fit p below e = entry_fits p below (stored_ones e.stored)

count_on_fits : (count : ℕ) → count ≤ 0xFFFFFFFF → count_on count ≤ 0xFFFFFFFF
count_on_fits count h = cond_by (λ n. n ≤ 0xFFFFFFFF) (ltb count 32) _ _ (λ e. omega (arith, ltb-true count 32 e)) (λ e. omega arith)

pub store_fits : (k : Store) (e : Entry) → EntryFits e → StoreFits k → StoreFits (store k e)
unfolding store
store_fits k e entry f =
    record {
      last = (originate_range k.last f.last).1;
      count = count_on_fits k.count f.count;
      entries_size = length-set k.entries (place k) e ∙ f.entries_size;
      entries = λ i. change_at EntryFits no_entry (λ _. e) (λ _ _. entry) k.entries (place k) i (f.entries i);
    }

-- indexes stay in a row
pub store_in_a_row : (k : Store) (e : Entry) → k.last ≤ 0xFFFF → InARow k → InARow (store k e)
unfolding store
store_in_a_row k e fits row = go (ltb k.count 32) refl
  where
    some : 1 ≤ originate k.last
    some = (originate_range k.last fits).0

    go : (b : Bool) → ltb k.count 32 ≡ b → InARow (store k e)
    go true h =
        let below : k.count < 32 = ltb-true k.count 32 h in
        let next : originate k.last ≡ k.last + 1 = originate_adds k.last (omega (arith, row.few below)) in
        rw h (record { few = λ l. omega (arith, row.few below); full = λ l. (omega arith, some) })
    go false h = rw h (record { few = λ l. absurd (omega arith); full = λ l. (omega arith, some) })

pub fresh_store_fits : StoreFits fresh_store
fresh_store_fits =
    record {
      last = omega arith;
      count = omega arith;
      entries_size = refl;
      entries = replicate_each EntryFits no_entry 32 (omega arith);
    }

-- ---- a fresh phy

pub fresh_fits : (g : ℕ) → g ≤ 31 → PhyFits (fresh_phy g)
fresh_fits g h =
    record {
      group = omega arith;
      errors_size = no_errors_fit.0;
      errors = no_errors_fit.1;
      monitors_size = refl;
      monitors = replicate_each MonitorFits fresh_monitor 4 (omega arith);
      change0 = omega arith;
      expander1 = omega arith;
      expander2 = omega arith;
    }

-- ---- the sizes alone, for which no width is asked

-- four error counts and four monitors
abbrev pub Four : Phy → Type 0
Four x = (length x.errors ≡ 4) × (length x.monitors ≡ 4)

-- what is done to a phy keeps them
abbrev pub KeepsFour : (Phy → Effect) → Type 0
KeepsFour f = (x : Phy) → Four x → Four (f x).phy

pub event_four : (source amount : ℕ) → KeepsFour (event_on source amount)
unfolding event_on
event_four source amount x f =
    (add_error_length source amount x.errors ∙ f.0, length-map x.monitors (counted source amount) ∙ f.1)

pub change_four : (enabled : Bool) → KeepsFour (change_on enabled)
unfolding change_on
change_four enabled x f = f

pub control_four : (operation : ℕ) → KeepsFour (controlled operation)
control_four operation x f =
    controlled_all (λ e. Four e.phy) operation x f (λ enabled. change_four enabled x f) (refl, f.1)

pub configure_four : (frame : List ℕ) (d : ℕ) (clear : Bool) → KeepsFour (configured frame d clear)
unfolding configured set_on clear_on
configure_four frame d clear x f =
    let set : length (set_monitors frame d 0 x.monitors) ≡ 4 = set_length frame d 0 x.monitors ∙ f.1 in
    cond_both (λ (e : Effect). Four e.phy) clear _ _ (f.0, length-map (set_monitors frame d 0 x.monitors) clear_monitor ∙ set) (f.0, set)
