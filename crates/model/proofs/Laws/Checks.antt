-- What a start or a report is told, what becomes of the shelf, and what is known of a request that passed its checks. Assumes nothing.
use Rattle.std.specs.Prelude.{Ok, Err}
use Prim.Native.Nat.{ℕ, ◌≤◌}
use native.Mathlib.Omega.{arith}
use mathlib.Core.Path.{◌≡◌, refl, sym, ap, ◌∙◌}
use mathlib.Core.Logic.{◌↔◌}
use mathlib.Core.Bool.{Bool, true, false, false≢true}
use Rattle.model.specs.declared.Failure.TheVariants.{InvalidExpanderChangeCount, PhyDoesNotExist}
use Rattle.model.specs.declared.Failure.TheVariants.{PhyVacant, SmpZoneViolation, NoManagementAccessRights}
use Rattle.model.specs.declared.Grounds.{Grounds}
use Rattle.model.specs.declared.House.{House}
use Rattle.model.specs.declared.House.TheVariants.{PhyNumber, PhyGroup, IllegalTable, SourceGroup, ShortBuffer}
use Rattle.model.specs.declared.House.TheVariants.{CutFrame, NoSuchPhy, EventSource, Amount, WrongFrame}
use Rattle.model.specs.declared.Shelf.{Shelf}
use Rattle.model.specs.Answers.{EventAnswer, FunctionResult, Taken, told_cut}
use Rattle.model.specs.House.{house_number, taken_number, event_number}
use Rattle.model.specs.Reports.{event_answer}
use Rattle.model.specs.Results.{accepted, count_right, check_phy, check_read, check_write, check_management}
use Rattle.model.specs.Shelf.{outcome}
use Rattle.model.specs.Tests.{check}

-- every house refusal has a number, from 1 to 10
pub house_range : (house : House) → (1 ≤ house_number house) × (house_number house ≤ 10)
house_range PhyNumber = (omega arith, omega arith)
house_range PhyGroup = (omega arith, omega arith)
house_range IllegalTable = (omega arith, omega arith)
house_range SourceGroup = (omega arith, omega arith)
house_range ShortBuffer = (omega arith, omega arith)
house_range CutFrame = (omega arith, omega arith)
house_range NoSuchPhy = (omega arith, omega arith)
house_range EventSource = (omega arith, omega arith)
house_range Amount = (omega arith, omega arith)
house_range WrongFrame = (omega arith, omega arith)

pub house_some : (house : House) → 1 ≤ house_number house
house_some house = (house_range house).0

-- so what is told is done exactly if its number is 0
pub done_iff : (taken : Taken) → (taken ≡ Ok tt) ↔ (taken_number taken ≡ 0)
done_iff (Ok done) = (λ e. refl, λ e. refl)
done_iff (Err house) = (λ e. cc, λ e. absurd (omega (arith, house_some house)))

-- an event report's answer has the number of what it was judged to be; and is "counted" exactly if that is done
pub answer_number_lem : (taken : Taken) (cut : Bool) → event_number (event_answer taken cut) ≡ taken_number taken
answer_number_lem (Ok done) cut = refl
answer_number_lem (Err house) cut = refl

pub counted_iff : (taken : Taken) (found cut : Bool) → (event_answer taken found ≡ told_cut cut) ↔ ((taken ≡ Ok tt) × (found ≡ cut))
counted_iff (Ok done) found cut = (λ e. (refl, ap cut_of e), λ (_, e). ap told_cut e)
  where
    cut_of : EventAnswer → Bool
    cut_of (Ok counted) = counted.cut
    cut_of (Err house) = false
counted_iff (Err house) found cut = (λ e. absurd (refused_apart e), λ (e, _). absurd (omega (arith, house_some house, (done_iff (Err house)).0 e)))
  where
    refused_apart : Err house ≡ told_cut cut → ⊥
    refused_apart e = let z : house_number house ≡ 0 = ap event_number e in omega (arith, house_some house)

-- what is told of an outcome is what was judged
pub outcome_taken : (taken : Taken) (old new : Shelf) → (outcome taken old new).taken ≡ taken
outcome_taken (Ok done) old new = refl
outcome_taken (Err house) old new = refl

-- what holds of the old shelf and, where it was done, of the new one holds of the shelf afterwards; of two reports at once, and of one
pub both_outcomes : (P : Shelf → Shelf → Type 0) (taken : Taken) (s t new new' : Shelf) → P s t
    → (taken ≡ Ok tt → P new new') → P (outcome taken s new).shelf (outcome taken t new').shelf
both_outcomes P (Ok told) s t new new' old done = done refl
both_outcomes P (Err house) s t new new' old done = old

pub every_outcome : (P : Shelf → Type 0) (taken : Taken) (s new : Shelf) → P s → (taken ≡ Ok tt → P new)
    → P (outcome taken s new).shelf
every_outcome P taken s new = both_outcomes (λ x y. P x) taken s s new new

-- and a refusal leaves the old shelf
pub outcome_stays : (taken : Taken) (old new : Shelf) → 1 ≤ taken_number taken → (outcome taken old new).shelf ≡ old
outcome_stays (Ok done) old new refused = absurd (omega arith)
outcome_stays (Err house) old new refused = refl

-- ---- A read or a write that is accepted is of a phy that exists and is reached.

-- its phy exists, and its source reaches it
abbrev pub Granting : Grounds → Type 0
Granting on = (on.there ≡ true) × (on.reached ≡ true)

phy_passed : (there reached : Bool) (unreached rest : FunctionResult) → accepted unreached ≡ false
    → accepted (check there (Err PhyDoesNotExist) (check reached unreached rest)) ≡ true → (there ≡ true) × (reached ≡ true)
phy_passed true true unreached rest fails e = (refl, refl)
phy_passed true false unreached rest fails e = absurd (false≢true (sym fails ∙ e))
phy_passed false reached unreached rest fails e = absurd (false≢true e)

pub read_passed : (on : Grounds) → accepted (check_read on) ≡ true → Granting on
read_passed on = phy_passed on.there on.reached (Err PhyVacant) (Ok tt) refl

pub write_passed : (on : Grounds) (expected : ℕ) (contents : FunctionResult) → accepted (check_write on expected contents) ≡ true
    → Granting on
write_passed on expected contents = go (count_right on expected)
  where
    go : (right : Bool) → accepted (check right (Err InvalidExpanderChangeCount) (check_phy on (Err SmpZoneViolation) contents)) ≡ true
        → Granting on
    go true e = phy_passed on.there on.reached (Err SmpZoneViolation) contents refl e
    go false e = absurd (false≢true e)

-- ---- A 21h that is accepted is from group 1.

pub management_passed : (on : Grounds) → accepted (check_management on) ≡ true → on.management ≡ true
management_passed on = go on.management
  where
    go : (b : Bool) → accepted (check b (Err NoManagementAccessRights) (Ok tt)) ≡ true → b ≡ true
    go true e = refl
    go false e = absurd (false≢true e)
