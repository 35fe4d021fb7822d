-- What is done to a phy: which writes there are, and what each write and each report keeps of its phy, one law for all of them.
-- Assumes nothing.
use Prim.Native.Nat.{ℕ}
use mathlib.Core.Path.{◌≡◌, refl, sym}
use mathlib.Core.Bool.{Bool, true, false, cond}
use mathlib.Core.List.{List}
use lib.Dec.{eqb}
use Rattle.model.specs.declared.Effect.{Effect}
use Rattle.model.specs.declared.Phy.{Phy}
use Rattle.model.specs.declared.Request.{Request}
use Rattle.model.specs.declared.Request.TheVariants.{ReportGeneral, ReportManufacturer, ReportBroadcast}
use Rattle.model.specs.declared.Request.TheVariants.{ReportPhyErrorLog, ReportPhyEvent, ReportPhyEventList, PhyControl, ConfigurePhyEvent}
use Rattle.model.specs.declared.Shelf.{Shelf}
use Rattle.model.specs.Counting.{originate_if, quiet, change_on, event_on}
use Rattle.model.specs.Reports.{link_change_on}
use Rattle.model.specs.Results.{accepted, grounds, check_operation, check_descriptors, result_of, decide}
use Rattle.model.specs.Writes.{without_errors, controlled, set_on, clear_on, configured, Doing, Reads, WritesTo, doing}
use Rattle.model.proofs.Laws.Checks.{Granting, write_passed}

-- ---- The requests that write

-- what is said of the phy that a request writes to, and of what is done to it; of a read nothing is said
abbrev pub OfWrite : (ℕ → (Phy → Effect) → Type 0) → Doing → Type 0
OfWrite P Reads = Unit {0}
OfWrite P (WritesTo p f) = P p f

-- what holds of each write holds of whatever a request does
pub every_write : (P : (Phy → Effect) → Type 0) (frame : List ℕ) → ((operation : ℕ) → P (controlled operation))
    → ((d : ℕ) (clear : Bool) → P (configured frame d clear)) → (request : Request) → OfWrite (λ p. P) (doing frame request)
unfolding doing
every_write P frame control configure ReportGeneral = tt
every_write P frame control configure ReportManufacturer = tt
every_write P frame control configure (ReportBroadcast kind) = tt
every_write P frame control configure (ReportPhyErrorLog p) = tt
every_write P frame control configure (ReportPhyEvent p) = tt
every_write P frame control configure (ReportPhyEventList start) = tt
every_write P frame control configure (PhyControl expected p operation) = control operation
every_write P frame control configure (ConfigurePhyEvent expected clear p d) = configure d clear

-- an accepted request writes to a phy that exists and that its source reaches
pub write_granted : (s : Shelf) (g : ℕ) (frame : List ℕ) (request : Request) → accepted (decide s g frame request) ≡ true
    → OfWrite (λ p f. Granting (grounds s g p)) (doing frame request)
unfolding doing decide result_of
write_granted s g frame ReportGeneral e = tt
write_granted s g frame ReportManufacturer e = tt
write_granted s g frame (ReportBroadcast kind) e = tt
write_granted s g frame (ReportPhyErrorLog p) e = tt
write_granted s g frame (ReportPhyEvent p) e = tt
write_granted s g frame (ReportPhyEventList start) e = tt
write_granted s g frame (PhyControl expected p operation) e = write_passed (grounds s g p) expected (check_operation operation) e
write_granted s g frame (ConfigurePhyEvent expected clear p d) e = write_passed (grounds s g p) expected (check_descriptors frame d) e

-- ---- What is done to a phy keeps its group; it makes the phy enabled or not, and originates Change, by no more than whether the phy was
-- enabled; and its Change count moves exactly where Change is originated.

pub record Inner (f : Phy → Effect) (enables originates : Bool → Bool) : Type 0 where
  pub group : (x : Phy) → (f x).phy.group ≡ x.group
  pub enabled : (x : Phy) → (f x).phy.enabled ≡ enables x.enabled
  pub change : (x : Phy) → (f x).change ≡ originates x.enabled
  pub change0 : (x : Phy) → (f x).phy.change0 ≡ originate_if (f x).change x.change0

-- it leaves the phy enabled or not as it was, and originates no Change
abbrev pub Quiet : (Phy → Effect) → Type 0
Quiet f = Inner f (λ b. b) (λ b. false)

pub event_inner : (source amount : ℕ) → Quiet (event_on source amount)
unfolding event_on
event_inner source amount = record { group = λ x. refl; enabled = λ x. refl; change = λ x. refl; change0 = λ x. refl }

pub link_change_inner : Inner link_change_on (λ b. b) (λ b. true)
unfolding change_on
link_change_inner = record { group = λ x. refl; enabled = λ x. refl; change = λ x. refl; change0 = λ x. refl }

pub configured_inner : (frame : List ℕ) (d : ℕ) (clear : Bool) → Quiet (configured frame d clear)
unfolding configured set_on clear_on
configured_inner frame d true = record { group = λ x. refl; enabled = λ x. refl; change = λ x. refl; change0 = λ x. refl }
configured_inner frame d false = record { group = λ x. refl; enabled = λ x. refl; change = λ x. refl; change0 = λ x. refl }

-- whether a 91h leaves the phy enabled, and whether it originates Change
abbrev pub enables_by : ℕ → Bool → Bool
enables_by operation enabled = cond (eqb operation 0x01) true (cond (eqb operation 0x03) false enabled)

abbrev pub originates_by : ℕ → Bool → Bool
originates_by operation enabled = cond (eqb operation 0x01) true (cond (eqb operation 0x03) enabled false)

-- a 91h, by its tests
controlled_by : (x : Phy) (one three five on : Bool) → x.enabled ≡ on
    → let e : Effect = cond one (change_on true x) (cond three (cond on (change_on false x) (quiet x)) (cond five (quiet (without_errors x)) (quiet x))) in
    (e.phy.group ≡ x.group)
    × (e.phy.enabled ≡ cond one true (cond three false x.enabled))
    × (e.change ≡ cond one true (cond three x.enabled false))
    × (e.phy.change0 ≡ originate_if e.change x.change0)
unfolding change_on
controlled_by x true three five on e = (refl, refl, refl, refl)
controlled_by x false true five true e = (refl, refl, sym e, refl)
controlled_by x false true five false e = (refl, e, sym e, refl)
controlled_by x false false true on e = (refl, refl, refl, refl)
controlled_by x false false false on e = (refl, refl, refl, refl)

pub controlled_inner : (operation : ℕ) → Inner (controlled operation) (enables_by operation) (originates_by operation)
unfolding controlled
controlled_inner operation =
    record {
      group = λ x. (controlled_by x (eqb operation 0x01) (eqb operation 0x03) (eqb operation 0x05) x.enabled refl).0;
      enabled = λ x. (controlled_by x (eqb operation 0x01) (eqb operation 0x03) (eqb operation 0x05) x.enabled refl).1;
      change = λ x. (controlled_by x (eqb operation 0x01) (eqb operation 0x03) (eqb operation 0x05) x.enabled refl).2;
      change0 = λ x. (controlled_by x (eqb operation 0x01) (eqb operation 0x03) (eqb operation 0x05) x.enabled refl).3;
    }
