-- What an accepted 93h does to the shelf, number by number, in plain logic: to its phy's monitors, to Expander 2h and to the stored
-- peak events. Every other phy, and every number that is not named, is as it was. And what is said here settles the shelf: no two
-- shelves are left by one 93h. Assumes nothing.
use Prim.Native.Nat.{ℕ, ◌≤◌, ◌<◌}
use native.Mathlib.Nat.{zero-add}
use mathlib.Core.Path.{◌≡◌, refl, sym, ap, subst⁻¹, ◌∙◌}
use mathlib.Core.Logic.Iff
use mathlib.Core.Logic.{◌↔◌}
use mathlib.Core.Bool.{Bool, true, false, not, cond, ◌&&◌}
use mathlib.Core.List.{List, [], ◌∷◌, map}
use borrow.Author.Tests.{ltb-true, ltb-false, lt-ltb, le-ltb, eqb-true, eqb-false, eq-eqb, ne_eqb}
use lib.Dec.{T, ltb, eqb}
use lib.ListN.{length, get_or, length-map, get_or-map}
use lib.Seq.{ext_get_or}
use Rattle.model.specs.declared.Effect.{Effect}
use Rattle.model.specs.declared.Monitor.{Monitor}
use Rattle.model.specs.declared.Phy.{Phy}
use Rattle.model.specs.declared.Request.TheVariants.{ConfigurePhyEvent}
use Rattle.model.specs.declared.Shelf.{Shelf}
use Rattle.model.specs.Bytes.{byte}
use Rattle.model.specs.Counting.{originate, originate_if, quiet, picked, stored_ones, with_value}
use Rattle.model.specs.Fits.{Placed}
use Rattle.model.specs.Reply.{monitor_at}
use Rattle.model.specs.Request.{clears, descriptor_source, descriptor_threshold}
use Rattle.model.specs.Shelf.{exists, phy_at, monitor, phy_with, fresh_monitor, entry_of}
use Rattle.model.specs.Sources.{peak}
use Rattle.model.specs.Store.{store_all}
use Rattle.model.specs.Writes.{set_monitor, set_monitors, with_monitors, set_on, clear_monitor}
use Rattle.model.specs.Writes.{any_peak, peaks, clear_on, configured, doing, effect}
use Rattle.model.proofs.Demands.Invariant.{phy_placed}
use Rattle.model.proofs.Laws.Tests.{is_true, is_false, and_iff, not_both_iff, both_iff, cond_iff, cond_both, eqb_iff}
use Rattle.model.proofs.Laws.PhyChanges.{configured_inner}
use Rattle.model.proofs.Plain.Counting.{stored_marked}
use Rattle.model.proofs.Plain.Shelf.{OnlyPhy, same_shelf, put_same, put_only}
use Rattle.model.proofs.Plain.Writes.{set_length, set_at_lem, HasPeak, any_peak_iff}

-- "Descriptor i sets monitor i; a changed source sets the value to 0, the same source keeps it. Then, if clearing, each of the
-- phy's monitors on a peak source goes to 0". The number of descriptors is in byte 11.
pub record MonitorConfigured (frame : List ℕ) (i : ℕ) (old new : Monitor) : Type 0 where
  pub named_source : i < byte frame 11 → new.source ≡ descriptor_source frame i
  pub named_threshold : i < byte frame 11 → new.threshold ≡ descriptor_threshold frame i
  pub other_source : byte frame 11 ≤ i → new.source ≡ old.source
  pub other_threshold : byte frame 11 ≤ i → new.threshold ≡ old.threshold
  pub changed : (new.source ≡ old.source → ⊥) → new.value ≡ 0
  pub cleared : T (clears frame) → T (peak new.source) → new.value ≡ 0
  pub kept : new.source ≡ old.source → (T (clears frame) → T (peak new.source) → ⊥) → new.value ≡ old.value

-- #101: a monitor "with its value before the clear", which is after the setting: old before the request, new after it.
pub record Standing (old new standing : Monitor) : Type 0 where
  pub source : standing.source ≡ new.source
  pub threshold : standing.threshold ≡ new.threshold
  pub same : new.source ≡ old.source → standing.value ≡ old.value
  pub changed : (new.source ≡ old.source → ⊥) → standing.value ≡ 0

-- "every peak monitor of the phy .. in monitor order": those of some monitors that are on a peak source
pub data PeaksOf : List Monitor → List Monitor → Type 0 where
  NoMore : PeaksOf [] []
  IsPeak : {m : Monitor} {ms those : List Monitor} → T (peak m.source) → PeaksOf ms those → PeaksOf (m ∷ ms) (m ∷ those)
  IsNone : {m : Monitor} {ms those : List Monitor} → (T (peak m.source) → ⊥) → PeaksOf ms those → PeaksOf (m ∷ ms) those

-- ".. and if there is one such monitor or more, Expander 2h is originated once." Of the phy, nothing but the monitors and
-- Expander 2h is another; of the rest of the shelf nothing, the change count among it, but for what a clear stores.
pub record Configured (s : Shelf) (p : ℕ) (frame : List ℕ) (t : Shelf) : Type 0 where
  pub only : OnlyPhy s p t
  pub changes : t.changes ≡ s.changes
  pub rest : let x : Phy = phy_at s p in
      phy_at t p
      ≡ phy_with x x.enabled x.errors (phy_at t p).monitors x.change0 x.expander1 (phy_at t p).expander2
  pub number : length (phy_at t p).monitors ≡ 4
  pub each : (i : ℕ) → i < 4 → MonitorConfigured frame i (monitor_at (phy_at s p) i) (monitor_at (phy_at t p) i)
  pub originated : T (clears frame) → (i : ℕ) → i < 4 → T (peak (monitor_at (phy_at t p) i).source)
      → (phy_at t p).expander2 ≡ originate (phy_at s p).expander2
  pub not_originated : (T (clears frame) → (i : ℕ) → i < 4 → T (peak (monitor_at (phy_at t p) i).source) → ⊥)
      → (phy_at t p).expander2 ≡ (phy_at s p).expander2
  pub standing : List Monitor
  pub standing_number : length standing ≡ 4
  pub stands : (i : ℕ) → i < 4 → Standing (monitor_at (phy_at s p) i) (monitor_at (phy_at t p) i) (get_or standing i fresh_monitor)
  pub stored : List Monitor
  pub stored_peaks : T (clears frame) → PeaksOf standing stored
  pub stored_none : (T (clears frame) → ⊥) → stored ≡ []
  pub store : t.store ≡ store_all s.store (map (entry_of p) stored)

-- ---- one monitor: what it is set to, and what the clear then makes of it

module _ (frame : List ℕ) where
  -- monitor i, m before, has these afterwards
  abbrev source_after : ℕ → Monitor → ℕ
  source_after i m = cond (ltb i (byte frame 11)) (descriptor_source frame i) m.source

  abbrev threshold_after : ℕ → Monitor → ℕ
  threshold_after i m = cond (ltb i (byte frame 11)) (descriptor_threshold frame i) m.threshold

  -- whether the value stays: it is not cleared, and the source is the same
  abbrev keeps : ℕ → ℕ → Bool
  keeps old new = not (clears frame && peak new) && eqb old new

  abbrev monitor_after : ℕ → Monitor → Monitor
  monitor_after i m =
      monitor (source_after i m) (cond (keeps m.source (source_after i m)) m.value 0) (threshold_after i m)

  -- the definitions come to that: first the setting, then the clear
  abbrev set_at : ℕ → Monitor → Monitor
  set_at i m = cond (ltb i (byte frame 11)) (set_monitor frame i m) m

  set_is : (i : ℕ) (m : Monitor)
      → set_at i m
      ≡ monitor (source_after i m) (cond (eqb m.source (source_after i m)) m.value 0) (threshold_after i m)
  unfolding set_monitor
  set_is i m = go (ltb i (byte frame 11))
    where
      go : (b : Bool)
          → (let source : ℕ = cond b (descriptor_source frame i) m.source in
          cond b (set_monitor frame i m) m
          ≡ monitor source (cond (eqb m.source source) m.value 0) (cond b (descriptor_threshold frame i) m.threshold))
      go true = refl
      go false = rw (eq-eqb m.source m.source refl)

  after_is : (i : ℕ) (m : Monitor) → cond (clears frame) (clear_monitor (set_at i m)) (set_at i m) ≡ monitor_after i m
  unfolding clear_monitor
  after_is i m = rw (set_is i m) (go (clears frame) (peak (source_after i m)) (eqb m.source (source_after i m)))
    where
      go : (clear top same : Bool)
          → (let after : ℕ → Monitor = λ value. monitor (source_after i m) value (threshold_after i m) in
          let set : Monitor = after (cond same m.value 0) in
          cond clear (cond top (with_value set 0) set) set ≡ after (cond (not (clear && top) && same) m.value 0))
      go true true same = refl
      go true false same = refl
      go false top same = refl

  -- it is what the sentence says, and nothing else is
  keeps_iff : (old new : ℕ) → T (keeps old new) ↔ ((T (clears frame) → T (peak new) → ⊥) × (old ≡ new))
  keeps_iff old new =
      both_iff (not (clears frame && peak new)) (eqb old new) (not_both_iff (clears frame) (peak new)) (eqb_iff old new)

  after_configured : (i : ℕ) (m : Monitor) → MonitorConfigured frame i m (monitor_after i m)
  after_configured i m =
      let keep = keeps_iff m.source (source_after i m) in
      let (keeping, losing) = (cond_iff (keeps m.source (source_after i m)) _ m.value 0).0 refl in
      record {
        named_source = λ h. rw (lt-ltb i (byte frame 11) h);
        named_threshold = λ h. rw (lt-ltb i (byte frame 11) h);
        other_source = λ h. rw (le-ltb i (byte frame 11) h);
        other_threshold = λ h. rw (le-ltb i (byte frame 11) h);
        changed = λ other. losing (λ t. other (sym (keep.0 t).1));
        cleared = λ clear top. losing (λ t. (keep.0 t).0 clear top);
        kept = λ same stays. keeping (keep.1 (stays, sym same));
      }

  configured_after : {i : ℕ} {m new : Monitor} → MonitorConfigured frame i m new → new ≡ monitor_after i m
  configured_after {i} {m} {new} c =
      let (source, threshold) = named (ltb i (byte frame 11)) refl in
      let value : new.value ≡ cond (keeps m.source new.source) m.value 0 = valued _ _ refl refl in
      -- an equation of monitors, from those of their fields
      rw (← source) (λ k. monitor new.source (value k) (threshold k))
    where
      named : (b : Bool) → ltb i (byte frame 11) ≡ b
          → (new.source ≡ cond b (descriptor_source frame i) m.source)
          × (new.threshold ≡ cond b (descriptor_threshold frame i) m.threshold)
      named true e = let h = ltb-true i (byte frame 11) e in (c.named_source h, c.named_threshold h)
      named false e = let h = ltb-false i (byte frame 11) e in (c.other_source h, c.other_threshold h)

      valued : (gone same : Bool) → clears frame && peak new.source ≡ gone → eqb m.source new.source ≡ same
          → new.value ≡ cond (not gone && same) m.value 0
      valued true same g e = let (clear, top) = (and_iff (clears frame) (peak new.source)).0 (rw g tt) in c.cleared clear top
      valued false true g e =
          c.kept (sym (eqb-true m.source new.source e)) ((not_both_iff (clears frame) (peak new.source)).0 (rw g tt))
      valued false false g e = c.changed (λ same. eqb-false m.source new.source e (sym same))

-- ---- all of a phy's monitors

-- the clear finds one
finds_iff : (frame : List ℕ) (ms : List Monitor) → T (clears frame && any_peak ms) ↔ (T (clears frame) × HasPeak ms)
finds_iff frame ms = both_iff (clears frame) (any_peak ms) Iff.rfl (any_peak_iff ms)

-- the clear
abbrev cleared_if : Bool → List Monitor → List Monitor
cleared_if clear ms = cond clear (map clear_monitor ms) ms

cleared_length : (clear : Bool) (ms : List Monitor) → length (cleared_if clear ms) ≡ length ms
cleared_length true ms = length-map ms clear_monitor
cleared_length false ms = refl

cleared_at : (clear : Bool) (ms : List Monitor) (i : ℕ)
    → (let m : Monitor = get_or ms i fresh_monitor in
    get_or (cleared_if clear ms) i fresh_monitor ≡ cond clear (clear_monitor m) m)
unfolding clear_monitor peak
cleared_at true ms i = get_or-map clear_monitor ms i fresh_monitor
cleared_at false ms i = refl

-- it changes no source
cleared_peaks : (ms : List Monitor) → any_peak (map clear_monitor ms) ≡ any_peak ms
unfolding any_peak clear_monitor
cleared_peaks [] = refl
cleared_peaks (m ∷ ms) =
    rw (cleared_peaks ms, cond_both (λ x. x.source ≡ m.source) (peak m.source) (with_value m 0) m refl refl)

-- ---- the phy

module _ (frame : List ℕ) (x : Phy) where
  -- its monitors once they are set, and afterwards
  abbrev monitors_set : List Monitor
  monitors_set = set_monitors frame (byte frame 11) 0 x.monitors

  abbrev monitors_after : List Monitor
  monitors_after = cleared_if (clears frame) monitors_set

  configured_is : (configured frame (byte frame 11) (clears frame) x).phy
      ≡ with_monitors x monitors_after (originate_if (clears frame && any_peak monitors_after) x.expander2)
  unfolding configured set_on clear_on
  configured_is = go (clears frame)
    where
      go : (clear : Bool)
          → (cond clear (clear_on (set_on frame (byte frame 11) x)) (quiet (set_on frame (byte frame 11) x))).phy
          ≡ with_monitors x (cleared_if clear monitors_set) (originate_if (clear && any_peak (cleared_if clear monitors_set)) x.expander2)
      go true = rw cleared_peaks
      go false = refl

  -- it originates no Change
  configured_quiet : (configured frame (byte frame 11) (clears frame) x).change ≡ false
  configured_quiet = (configured_inner frame (byte frame 11) (clears frame)).change x

  -- what it stores, if it clears: the peak monitors as they are once they are set
  abbrev clear_stores : List Monitor
  clear_stores = cond (clears frame) (picked (peaks monitors_set) monitors_set) []

  configured_stores : let e : Effect = configured frame (byte frame 11) (clears frame) x in
      stored_ones e.stored ≡ clear_stores
  unfolding configured set_on clear_on
  configured_stores = go (clears frame)
    where
      go : (clear : Bool)
          → (let e : Effect = cond clear (clear_on (set_on frame (byte frame 11) x)) (quiet (set_on frame (byte frame 11) x)) in
          stored_ones e.stored ≡ cond clear (picked (peaks monitors_set) monitors_set) [])
      go true = stored_marked (peaks monitors_set) monitors_set
      go false = refl

  number_after : length x.monitors ≡ 4 → length monitors_after ≡ 4
  number_after four = cleared_length (clears frame) monitors_set ∙ set_length frame (byte frame 11) 0 x.monitors ∙ four

  each_after : length x.monitors ≡ 4 → (i : ℕ) → i < 4
      → get_or monitors_after i fresh_monitor ≡ monitor_after frame i (monitor_at x i)
  each_after four i h =
      rw (cleared_at, set_at_lem frame (byte frame 11) x.monitors 0 i i (zero-add i) (rw four h)) (after_is frame i (monitor_at x i))

  -- how a monitor stands once it is set
  each_set : length x.monitors ≡ 4 → (i : ℕ) → i < 4 → get_or monitors_set i fresh_monitor ≡ set_at frame i (monitor_at x i)
  each_set four i h = set_at_lem frame (byte frame 11) x.monitors 0 i i (zero-add i) (rw four h)

  each_stands : length x.monitors ≡ 4 → (i : ℕ) → i < 4
      → Standing (monitor_at x i) (get_or monitors_after i fresh_monitor) (get_or monitors_set i fresh_monitor)
  each_stands four i h =
      let m : Monitor = monitor_at x i in
      rw (each_after four i h, each_set four i h, set_is frame i m)
      (record {
        source = refl;
        threshold = refl;
        same = λ e. rw (eq-eqb m.source (source_after frame i m) (sym e));
        changed = λ other. rw (ne_eqb m.source (source_after frame i m) (λ e. other (sym e)));
      })

-- the marked ones are the peaks, and what is said of them settles them
peaks_are : (ms : List Monitor) → PeaksOf ms (picked (peaks ms) ms)
peaks_are [] = NoMore
peaks_are (m ∷ ms) = go (peak m.source) refl (peaks_are ms)
  where
    go : (b : Bool) → peak m.source ≡ b → {those : List Monitor} → PeaksOf ms those → PeaksOf (m ∷ ms) (cond b (m ∷ those) those)
    go true e others = IsPeak {m = m} (rw e tt) others
    go false e others = IsNone {m = m} (λ t. rw e at t) others

peaks_one : {ms these those : List Monitor} → PeaksOf ms these → PeaksOf ms those → these ≡ those
peaks_one NoMore NoMore = refl
peaks_one (IsPeak {m = m} c a) (IsPeak d b) = ap (λ those. m ∷ those) (peaks_one a b)
peaks_one (IsPeak c a) (IsNone d b) = absurd (d c)
peaks_one (IsNone c a) (IsPeak d b) = absurd (c d)
peaks_one (IsNone c a) (IsNone d b) = peaks_one a b

standing_one : {old new one other : Monitor} → Standing old new one → Standing old new other → one ≡ other
standing_one {old} {new} {one} {other} a b =
    let whole : (m : Monitor) → m ≡ monitor m.source m.value m.threshold = λ m. refl in
    let value : one.value ≡ other.value = valued (eqb new.source old.source) refl in
    cc (whole one, whole other, a.source, b.source, a.threshold, b.threshold)
  where
    valued : (same : Bool) → eqb new.source old.source ≡ same → one.value ≡ other.value
    valued true e = let same = eqb-true new.source old.source e in a.same same ∙ sym (b.same same)
    valued false e = let apart = eqb-false new.source old.source e in a.changed apart ∙ sym (b.changed apart)

-- an accepted 93h, of a phy that exists, does exactly this
pub configured_effect : (s : Shelf) (frame : List ℕ) (expected p : ℕ) → Placed s → T (exists s p)
    → Configured s p frame (effect s frame (ConfigurePhyEvent expected (clears frame) p (byte frame 11)))
unfolding effect doing
configured_effect s frame expected p placed there =
    let x : Phy = phy_at s p in
    let (h, (_, four)) = phy_placed s p placed there in
    let ms : List Monitor = monitors_after frame x in
    let new = put_same s p (configured frame (byte frame 11) (clears frame) x).phy s.changes h ∙ configured_is frame x in
    let (finding, missing) = (cond_iff (clears frame && any_peak ms) _ (originate x.expander2) x.expander2).0 refl in
    record {
      only = put_only s p _ _;
      changes = rw (configured_quiet frame x);
      rest = rw new;
      number = rw new (number_after frame x four);
      each = rw new (λ i l. rw (each_after frame x four i l) (after_configured frame i (monitor_at x i)));
      originated = rw new (λ clear i l top. finding ((finds_iff frame ms).1 (clear, (i, rw (number_after frame x four) l, top))));
      not_originated = rw new
          (λ none.
          missing
          (λ found.
          let (clear, (i, l, top)) = (finds_iff frame ms).0 found in
          none clear i (rw (number_after frame x four) at l) top));
      standing = monitors_set frame x;
      standing_number = set_length frame (byte frame 11) 0 x.monitors ∙ four;
      stands = rw new (each_stands frame x four);
      stored = clear_stores frame x;
      stored_peaks = λ clear. rw (is_true (clears frame) clear) (peaks_are (monitors_set frame x));
      stored_none = λ keeps. rw (is_false (clears frame) keeps);
      store = rw (configured_stores frame x);
    }

-- no two shelves are left by one 93h: its monitors are settled one by one, and they settle Expander 2h
expander2_is : {s t : Shelf} {p : ℕ} {frame : List ℕ} → Configured s p frame t
    → (phy_at t p).expander2
    ≡ originate_if (clears frame && any_peak (phy_at t p).monitors) (phy_at s p).expander2
expander2_is {s} {t} {p} {frame} c =
    let finds = finds_iff frame (phy_at t p).monitors in
    (cond_iff (clears frame && any_peak (phy_at t p).monitors) _ (originate (phy_at s p).expander2) (phy_at s p).expander2).1 (
      λ found.
          let (clear, (i, l, top)) = finds.0 found in
          c.originated clear i (rw c.number at l) top,
      λ none. c.not_originated (λ clear i l top. none (finds.1 (clear, (i, rw c.number l, top)))),
    )

pub configured_one_shelf : {s t u : Shelf} {p : ℕ} {frame : List ℕ}
    → Configured s p frame t → Configured s p frame u → t ≡ u
configured_one_shelf {s} {t} {u} {p} {frame} a b =
    let monitors : (phy_at t p).monitors ≡ (phy_at u p).monitors =
    ext_get_or fresh_monitor _ _ (a.number ∙ sym b.number)
    (λ i h.
    let l : i < 4 = rw a.number at h in
    configured_after frame (a.each i l) ∙ sym (configured_after frame (b.each i l))) in
    let standing : a.standing ≡ b.standing =
    ext_get_or fresh_monitor _ _ (a.standing_number ∙ sym b.standing_number)
    (λ i h.
    let l : i < 4 = rw a.standing_number at h in
    let same : monitor_at (phy_at t p) i ≡ monitor_at (phy_at u p) i = ap (λ ms. get_or ms i fresh_monitor) monitors in
    standing_one (a.stands i l) (subst⁻¹ (λ m. Standing (monitor_at (phy_at s p) i) m (get_or b.standing i fresh_monitor)) same (b.stands i l))) in
    same_shelf a.only b.only (cc (a.rest, b.rest, expander2_is a, expander2_is b)) (cc)
    (cc (a.store, b.store, stored_one standing (clears frame) refl))
  where
    stored_one : a.standing ≡ b.standing → (clear : Bool) → clears frame ≡ clear → a.stored ≡ b.stored
    stored_one same true e =
        peaks_one (a.stored_peaks (rw e tt)) (subst⁻¹ (λ ms. PeaksOf ms b.stored) same (b.stored_peaks (rw e tt)))
    stored_one same false e = a.stored_none (λ t. rw e at t) ∙ sym (b.stored_none (λ t. rw e at t))
