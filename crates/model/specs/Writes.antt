-- "Frames": what an accepted 91h or 93h does to the shelf.
use Rattle.std.specs.Prelude.{ℕ, suc, Bool, true, false, cond, ◌||◌, List, [], ◌∷◌, map, ltb, eqb, replicate}
use Rattle.model.specs.declared.Effect.{Effect}
use Rattle.model.specs.declared.Monitor.{Monitor}
use Rattle.model.specs.declared.Phy.{Phy}
use Rattle.model.specs.declared.Request.{Request}
use Rattle.model.specs.declared.Request.TheVariants.{ReportGeneral, ReportManufacturer, ReportBroadcast}
use Rattle.model.specs.declared.Request.TheVariants.{ReportPhyErrorLog, ReportPhyEvent, PhyControl}
use Rattle.model.specs.declared.Request.TheVariants.{ReportPhyEventList, ConfigurePhyEvent}
use Rattle.model.specs.declared.Shelf.{Shelf}
use Rattle.model.specs.Counting.{originate_if, effect_of, quiet, change_on, with_value}
use Rattle.model.specs.Request.{descriptor_source, descriptor_threshold}
use Rattle.model.specs.Shelf.{monitor, phy_with, phy_at}
use Rattle.model.specs.Sources.{peak}
use Rattle.model.specs.Store.{carried_out}

-- 91h 05h: "sets the four error counts to 0"
abbrev pub without_errors : Phy → Phy
without_errors x =
    phy_with x x.enabled (replicate 4 0) x.monitors x.change0 x.expander1 x.expander2

-- 91h: "00h none; 01h link reset enables the phy and originates Change; 03h disable originates Change only if the phy was
-- enabled; 05h sets the four error counts to 0."
unfoldable pub controlled : ℕ → Phy → Effect
controlled operation x =
    cond (eqb operation 0x01) (change_on true x)
    (cond (eqb operation 0x03) (cond x.enabled (change_on false x) (quiet x))
    (cond (eqb operation 0x05) (quiet (without_errors x))
    (quiet x)))

-- 93h: "Descriptor i sets monitor i; a changed source sets the value to 0, the same source keeps it."
unfoldable pub set_monitor : List ℕ → ℕ → Monitor → Monitor
set_monitor frame i m =
    monitor (descriptor_source frame i)
    (cond (eqb m.source (descriptor_source frame i)) m.value 0)
    (descriptor_threshold frame i)

-- the monitors from i on, of which those below d have a descriptor
unfoldable pub set_monitors : List ℕ → ℕ → ℕ → List Monitor → List Monitor
set_monitors frame d i [] = []
set_monitors frame d i (m ∷ ms) = cond (ltb i d) (set_monitor frame i m) m ∷ set_monitors frame d (suc i) ms

abbrev pub with_monitors : Phy → List Monitor → ℕ → Phy
with_monitors x monitors expander2 =
    phy_with x x.enabled x.errors monitors x.change0 x.expander1 expander2

unfoldable pub set_on : List ℕ → ℕ → Phy → Phy
set_on frame d x = with_monitors x (set_monitors frame d 0 x.monitors) x.expander2

-- "Then, if clearing, each of the phy's monitors on a peak source goes to 0, and if there is one such monitor or more,
-- Expander 2h is originated once."
unfoldable pub clear_monitor : Monitor → Monitor
clear_monitor m = cond (peak m.source) (with_value m 0) m

unfoldable pub any_peak : List Monitor → Bool
any_peak [] = false
any_peak (m ∷ ms) = peak m.source || any_peak ms

-- #101: "each Expander 2h stores every peak monitor of the phy with its value before the clear, in monitor order"
abbrev pub peaks : List Monitor → List Bool
peaks monitors = map (λ m. peak m.source) monitors

unfoldable pub clear_on : Phy → Effect
clear_on x =
    effect_of
    (with_monitors x (map clear_monitor x.monitors) (originate_if (any_peak x.monitors) x.expander2))
    false x.monitors (peaks x.monitors)

unfoldable pub configured : List ℕ → ℕ → Bool → Phy → Effect
configured frame d clear x = cond clear (clear_on (set_on frame d x)) (quiet (set_on frame d x))

-- What an accepted request does: it reads, and nothing changes; or it writes to a phy, which has an effect.
pub data Doing : Type 0 where
  Reads : Doing
  WritesTo : ℕ → (Phy → Effect) → Doing

unfoldable pub doing : List ℕ → Request → Doing
doing frame ReportGeneral = Reads
doing frame ReportManufacturer = Reads
doing frame (ReportBroadcast kind) = Reads
doing frame (ReportPhyErrorLog p) = Reads
doing frame (ReportPhyEvent p) = Reads
doing frame (ReportPhyEventList start) = Reads
doing frame (PhyControl expected p operation) = WritesTo p (controlled operation)
doing frame (ConfigurePhyEvent expected clear p d) = WritesTo p (configured frame d clear)

abbrev pub done : Shelf → Doing → Shelf
done s Reads = s
done s (WritesTo p f) = carried_out s p (f (phy_at s p))

-- The shelf after an accepted request.
unfoldable pub effect : Shelf → List ℕ → Request → Shelf
effect s frame request = done s (doing frame request)
