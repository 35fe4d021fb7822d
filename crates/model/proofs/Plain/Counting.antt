-- Originating, the two additions and when the second is cut, the crossing of a threshold and which monitors cross theirs, in plain logic. Assumes nothing.
use Prim.Native.Nat.{ℕ, ◌+◌, ◌-◌, ◌^◌, ◌≤◌, ◌<◌, min}
use native.Mathlib.Nat.{mod-eq_of_lt, eq-or-lt_of_le}
use native.Mathlib.Omega.{arith}
use mathlib.Core.Path.{◌≡◌, refl, ap, ◌∙◌}
use mathlib.Core.Logic.Iff
use mathlib.Core.Logic.{◌↔◌, ⊎_elim}
use mathlib.Core.Bool.{Bool, true, false, cond}
use mathlib.Core.List.{List, [], ◌∷◌, map}
use borrow.Author.Tests.{ne_eqb}
use lib.Dec.{T, leb, ltb}
use lib.ListN.{length, get_or, length-set}
use Rattle.model.specs.declared.Monitor.{Monitor}
use Rattle.model.specs.Counting.{originate, originate_if, originate_times, add_wrapping, add_saturating, counted, marked, picked, stored_ones, crosses, crossed}
use Rattle.model.specs.Counting.{originate_crossings, add_error, error_cut}
use Rattle.model.specs.Sources.{peak}
use Rattle.model.specs.Tests.{within}
use Rattle.model.proofs.Laws.Places.{All}
use Rattle.model.proofs.Laws.Tests.{is_true, is_false, all_three_iff, leb_iff, ltb_iff, cond_both}

-- "Originating adds one to that count; FFFFh goes to 0001h."
pub originate_adds : (count : ℕ) → count < 0xFFFF → originate count ≡ count + 1
unfolding originate
originate_adds count h = rw (ne_eqb count 0xFFFF (λ e. omega arith))

pub originate_wraps : originate 0xFFFF ≡ 0x0001
unfolding originate
originate_wraps = refl

-- so a count that has been originated once is never 0000h again, and fits 16 bits
pub originate_range : (count : ℕ) → count ≤ 0xFFFF → (1 ≤ originate count) × (originate count ≤ 0xFFFF)
originate_range count h =
    ⊎_elim
    (λ e. omega (arith, ap originate e ∙ originate_wraps))
    (λ l. omega (arith, originate_adds count l))
    (eq-or-lt_of_le h)

-- "counting values wrap at 32 bits"
pub wrapping_fits : (value amount : ℕ) → value + amount < 2 ^ 32 → add_wrapping value amount ≡ value + amount
wrapping_fits value amount h = mod-eq_of_lt h

pub wrapping_wraps : (value amount : ℕ) → value < 2 ^ 32 → amount < 2 ^ 32 → 2 ^ 32 ≤ value + amount
    → add_wrapping value amount ≡ value + amount - 2 ^ 32
wrapping_wraps value amount v a h = omega arith

-- #104: it "must answer whether the exact sum was above FFFFFFFFh"
pub saturating_cut : (count amount : ℕ) → T (add_saturating count amount).cut ↔ (0xFFFFFFFF < count + amount)
saturating_cut count amount = ltb_iff 0xFFFFFFFF (count + amount)

-- ".. as well as the new number", and error counts "stop at FFFFFFFFh"
pub saturating_fits : (count amount : ℕ) → count + amount ≤ 0xFFFFFFFF
    → add_saturating count amount ≡ record { number = count + amount; cut = false }
saturating_fits count amount h =
    let whole : min (count + amount) 0xFFFFFFFF ≡ count + amount = omega arith in
    rw (whole, is_false (add_saturating count amount).cut (λ t. let more = (saturating_cut count amount).0 t in omega arith))

pub saturating_stops : (count amount : ℕ) → 0xFFFFFFFF < count + amount
    → add_saturating count amount ≡ record { number = 0xFFFFFFFF; cut = true }
saturating_stops count amount h =
    let most : min (count + amount) 0xFFFFFFFF ≡ 0xFFFFFFFF = omega arith in
    rw (most, is_true (add_saturating count amount).cut ((saturating_cut count amount).1 h))

-- and a report is cut exactly where it adds to an error count and that addition is
pub error_cut_iff : (source amount : ℕ) (errors : List ℕ)
    → T (error_cut source amount errors)
    ↔ ((0x01 ≤ source) × (source ≤ 0x04) × (0xFFFFFFFF < get_or errors (source - 1) 0 + amount))
unfolding error_cut
error_cut_iff source amount errors =
    let count : ℕ = get_or errors (source - 1) 0 in
    all_three_iff (leb 0x01 source) (leb source 0x04) (add_saturating count amount).cut (leb_iff 0x01 source) (leb_iff source 0x04)
    (saturating_cut count amount)

-- an event report adds in a place, and adds or drops none
pub add_error_length : (source amount : ℕ) (errors : List ℕ) → length (add_error source amount errors) ≡ length errors
unfolding add_error
add_error_length source amount errors =
    cond_both (λ (es : List ℕ). length es ≡ length errors) (within 0x01 0x04 source) _ _ (rw length-set) refl

-- "A peak that a report takes from below its threshold to it or above"
pub crosses_iff : (before : Monitor) (after : ℕ)
    → T (crosses before after)
    ↔ (T (peak before.source) × (before.value < before.threshold) × (before.threshold ≤ after))
unfolding crosses
crosses_iff before after =
    all_three_iff (peak before.source) (ltb before.value before.threshold) (leb before.threshold after)
    Iff.rfl
    (ltb_iff before.value before.threshold)
    (leb_iff before.threshold after)

-- "Threshold 0 thus never does."
pub threshold_0 : (before : Monitor) (after : ℕ) → before.threshold ≡ 0 → T (crosses before after) → ⊥
threshold_0 before after e t = let h = (crosses_iff before after).0 t in omega arith

-- ---- the marked ones of some monitors

pub picked_all : (P : Monitor → Type 0) (marks : List Bool) (ms : List Monitor) → All P ms → All P (picked marks ms)
picked_all P [] ms all = tt
picked_all P (mark ∷ marks) [] all = tt
picked_all P (mark ∷ marks) (m ∷ ms) all =
    let others : All P (picked marks ms) = picked_all P marks ms all.1 in
    cond_both (All P) mark _ _ (all.0, others) others

-- and they are what stands there where each marked one stands in its place
pub stored_marked : (marks : List Bool) (ms : List Monitor) → stored_ones (marked marks ms) ≡ picked marks ms
stored_marked [] ms = refl
stored_marked (mark ∷ marks) [] = refl
stored_marked (true ∷ marks) (m ∷ ms) = ap (λ others. m ∷ others) (stored_marked marks ms)
stored_marked (false ∷ marks) (m ∷ ms) = stored_marked marks ms

-- ---- ".. originates Expander 1h, once per monitor"

-- A monitor that was old is new: "A peak that a report takes from below its threshold to it or above".
pub record Crossed (old new : Monitor) : Type 0 where
  pub on_peak : T (peak old.source)
  pub below : old.value < old.threshold
  pub reached : old.threshold ≤ new.value

crossed_iff : (old new : Monitor) → T (crosses old new.value) ↔ Crossed old new
crossed_iff old new =
    Iff.trans (crosses_iff old new.value) (
      λ (top, low, high). record { on_peak = top; below = low; reached = high },
      λ c. (c.on_peak, c.below, c.reached),
    )

-- which of some monitors have crossed, in their order and as they are now, from what they were and what they are
pub data Crossings : List Monitor → List Monitor → List Monitor → Type 0 where
  NoMore : Crossings [] [] []
  Crosses : {m n : Monitor} {ms ns those : List Monitor} → Crossed m n → Crossings ms ns those
      → Crossings (m ∷ ms) (n ∷ ns) (n ∷ those)
  CrossesNot : {m n : Monitor} {ms ns those : List Monitor} → (Crossed m n → ⊥) → Crossings ms ns those
      → Crossings (m ∷ ms) (n ∷ ns) those

-- that is settled
pub crossings_one : {ms ns these those : List Monitor} → Crossings ms ns these → Crossings ms ns those → these ≡ those
crossings_one NoMore NoMore = refl
crossings_one (Crosses {n = n} c a) (Crosses d b) = ap (λ those. n ∷ those) (crossings_one a b)
crossings_one (Crosses c a) (CrossesNot d b) = absurd (d c)
crossings_one (CrossesNot c a) (Crosses d b) = absurd (c d)
crossings_one (CrossesNot c a) (CrossesNot d b) = crossings_one a b

-- those that the definition lists have crossed, and no others
pub crossed_are : (source amount : ℕ) (ms : List Monitor)
    → Crossings ms (map (counted source amount) ms) (crossed source amount ms)
crossed_are source amount [] = NoMore
crossed_are source amount (m ∷ ms) = go (crosses m new.value) refl (crossed_are source amount ms)
  where
    new : Monitor
    new = counted source amount m

    go : (b : Bool) → crosses m new.value ≡ b → {ns those : List Monitor} → Crossings ms ns those
        → Crossings (m ∷ ms) (new ∷ ns) (cond b (new ∷ those) those)
    go true e rest = Crosses ((crossed_iff m new).0 (rw e tt)) rest
    go false e rest = CrossesNot (λ c. rw e at ((crossed_iff m new).1 c)) rest

-- so a count is originated once for each monitor: the first, and then the others
pub crossings_next : (source amount : ℕ) (m : Monitor) (ms : List Monitor) (count : ℕ)
    → originate_crossings source amount (m ∷ ms) count
    ≡ originate_crossings source amount ms (originate_if (crosses m (counted source amount m).value) count)
crossings_next source amount m ms count = go (crosses m (counted source amount m).value)
  where
    go : (b : Bool)
        → originate_times (length (cond b (counted source amount m ∷ crossed source amount ms) (crossed source amount ms))) count
        ≡ originate_crossings source amount ms (originate_if b count)
    go true = refl
    go false = refl
