-- "Counting": what a report does to a monitor and to an error count, and what originating does to a broadcast count.
use Rattle.std.specs.Prelude.{ℕ, zero, suc, ◌+◌, ◌-◌, ◌%◌, ◌^◌, min, max, Bool, true, false, cond, ◌&&◌, List, [], ◌∷◌, map, leb, ltb, eqb, length, get_or, set, replicate, Option, Some, None}
use Rattle.model.specs.declared.Added.{Added}
use Rattle.model.specs.declared.Effect.{Effect}
use Rattle.model.specs.declared.Monitor.{Monitor}
use Rattle.model.specs.declared.Phy.{Phy}
use Rattle.model.specs.Shelf.{monitor, phy_with}
use Rattle.model.specs.Sources.{peak}
use Rattle.model.specs.Tests.{within}

-- "Originating adds one to that count; FFFFh goes to 0001h." The change count moves the same way.
unfoldable pub originate : ℕ → ℕ
originate count = cond (eqb count 0xFFFF) 0x0001 (count + 1)

-- a count that is originated, or not
abbrev pub originate_if : Bool → ℕ → ℕ
originate_if b count = cond b (originate count) count

-- a count that is originated n times
abbrev pub originate_times : ℕ → ℕ → ℕ
originate_times zero count = count
originate_times (suc n) count = originate_times n (originate count)

-- ---- What a write or a report does to the phy that it names

-- those of some monitors that are marked, each in its place
abbrev pub marked : List Bool → List Monitor → List (Option Monitor)
marked [] ms = []
marked (mark ∷ marks) [] = []
marked (mark ∷ marks) (m ∷ ms) = cond mark (Some m) None ∷ marked marks ms

-- those that are there, in monitor order
abbrev pub stored_ones : List (Option Monitor) → List Monitor
stored_ones [] = []
stored_ones (Some m ∷ ms) = m ∷ stored_ones ms
stored_ones (None ∷ ms) = stored_ones ms

-- the phy afterwards, whether Change is originated, and its monitors as they stand when they are stored, those that are marked
abbrev pub effect_of : Phy → Bool → List Monitor → List Bool → Effect
effect_of after change monitors marks = record { phy = after; change = change; stored = marked marks monitors }

-- nothing is stored
abbrev pub stores_none : Phy → Bool → Effect
stores_none after change = record { phy = after; change = change; stored = replicate 4 None }

-- .. and Change is not originated
abbrev pub quiet : Phy → Effect
quiet after = stores_none after false

-- the marked ones of some monitors, in monitor order
abbrev pub picked : List Bool → List Monitor → List Monitor
picked [] ms = []
picked (mark ∷ marks) [] = []
picked (mark ∷ marks) (m ∷ ms) = cond mark (m ∷ picked marks ms) (picked marks ms)

-- A phy that originates Change, left enabled or not.
unfoldable pub change_on : Bool → Phy → Effect
change_on enabled x =
    stores_none (phy_with x enabled x.errors x.monitors (originate x.change0) x.expander1 x.expander2) true

-- ---- An event report

-- "counting values wrap at 32 bits"
abbrev pub add_wrapping : ℕ → ℕ → ℕ
add_wrapping value amount = (value + amount) % 2 ^ 32

-- "the four error counts .., which stop at FFFFFFFFh". #104: "The saturating addition must answer whether the exact sum was above
-- FFFFFFFFh, as well as the new number."
abbrev pub add_saturating : ℕ → ℕ → Added
add_saturating count amount =
    let sum : ℕ = count + amount in
    record { number = min sum 0xFFFFFFFF; cut = ltb 0xFFFFFFFF sum }

abbrev pub with_value : Monitor → ℕ → Monitor
with_value m value = monitor m.source value m.threshold

-- "Each of the phy's monitors on that source changes: counting values wrap at 32 bits, peaks keep the larger."
unfoldable pub counted : ℕ → ℕ → Monitor → Monitor
counted source amount m =
    cond (eqb m.source source)
    (with_value m (cond (peak source) (max m.value amount) (add_wrapping m.value amount)))
    m

-- "A peak that a report takes from below its threshold to it or above": the monitor before the report, and its value afterwards.
-- "Threshold 0 thus never does": nothing is below 0.
unfoldable pub crosses : Monitor → ℕ → Bool
crosses before after = peak before.source && ltb before.value before.threshold && leb before.threshold after

-- which of a phy's monitors do
abbrev pub crossings : ℕ → ℕ → List Monitor → List Bool
crossings source amount monitors = map (λ m. crosses m (counted source amount m).value) monitors

-- those that do, in monitor order, each as the report leaves it
abbrev pub crossed : ℕ → ℕ → List Monitor → List Monitor
crossed source amount monitors = picked (crossings source amount monitors) (map (counted source amount) monitors)

-- ".. originates Expander 1h, once per monitor"
abbrev pub originate_crossings : ℕ → ℕ → List Monitor → ℕ → ℕ
originate_crossings source amount monitors count = originate_times (length (crossed source amount monitors)) count

-- "Sources 01h to 04h also add to the four error counts in the order above"
unfoldable pub add_error : ℕ → ℕ → List ℕ → List ℕ
add_error source amount errors =
    cond (within 0x01 0x04 source)
    (set errors (source - 1) (add_saturating (get_or errors (source - 1) 0) amount).number)
    errors

-- Whether that addition was cut. #104: ".. and with "no" for sources that have no error count", whatever their monitors do.
unfoldable pub error_cut : ℕ → ℕ → List ℕ → Bool
error_cut source amount errors =
    within 0x01 0x04 source && (add_saturating (get_or errors (source - 1) 0) amount).cut

-- An event report, on the phy that it names. #101: "Each origination of Expander 1h stores the monitor that crossed, in monitor order if
-- several do, with its new value".
unfoldable pub event_on : ℕ → ℕ → Phy → Effect
event_on source amount x =
    let after : List Monitor = map (counted source amount) x.monitors in
    effect_of
    (phy_with x x.enabled
    (add_error source amount x.errors)
    after
    x.change0
    (originate_crossings source amount x.monitors x.expander1)
    x.expander2)
    false after (crossings source amount x.monitors)
