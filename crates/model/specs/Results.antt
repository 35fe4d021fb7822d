-- "Function results: a frame is written". "In this order, first failure decides".
use Rattle.std.specs.Prelude.{ℕ, Bool, List, [], ◌∷◌, leb, eqb, Ok, Err, is_none}
use Rattle.model.specs.declared.Failure.{Failure}
use Rattle.model.specs.declared.Failure.TheVariants.{UnknownSmpFunction, SmpFunctionFailed}
use Rattle.model.specs.declared.Failure.TheVariants.{InvalidRequestFrameLength}
use Rattle.model.specs.declared.Failure.TheVariants.{InvalidExpanderChangeCount, PhyDoesNotExist}
use Rattle.model.specs.declared.Failure.TheVariants.{UnknownPhyOperation, PhyVacant}
use Rattle.model.specs.declared.Failure.TheVariants.{UnknownPhyEventSource, SmpZoneViolation}
use Rattle.model.specs.declared.Failure.TheVariants.{NoManagementAccessRights}
use Rattle.model.specs.declared.Grounds.{Grounds}
use Rattle.model.specs.declared.Request.{Request}
use Rattle.model.specs.declared.Request.TheVariants.{ReportGeneral, ReportManufacturer, ReportBroadcast}
use Rattle.model.specs.declared.Request.TheVariants.{ReportPhyErrorLog, ReportPhyEvent, PhyControl}
use Rattle.model.specs.declared.Request.TheVariants.{ReportPhyEventList, ConfigurePhyEvent}
use Rattle.model.specs.declared.Shelf.{Shelf}
use Rattle.model.specs.Answers.{FunctionResult}
use Rattle.model.specs.Reach.{reaches}
use Rattle.model.specs.Request.{phy_of, first_unsupported}
use Rattle.model.specs.Shelf.{exists}
use Rattle.model.specs.Tests.{check, one_of}

abbrev pub failure_code : Failure → ℕ
failure_code UnknownSmpFunction = 0x01
failure_code SmpFunctionFailed = 0x02
failure_code InvalidRequestFrameLength = 0x03
failure_code InvalidExpanderChangeCount = 0x04
failure_code PhyDoesNotExist = 0x10
failure_code UnknownPhyOperation = 0x13
failure_code PhyVacant = 0x16
failure_code UnknownPhyEventSource = 0x17
failure_code SmpZoneViolation = 0x20
failure_code NoManagementAccessRights = 0x21

-- accepted is 00h
abbrev pub result_code : FunctionResult → ℕ
result_code (Ok accepted) = 0x00
result_code (Err failure) = failure_code failure

abbrev pub accepted : FunctionResult → Bool
accepted result = eqb (result_code result) 0x00

-- What may decide a request from source group g that names phy p: of the shelf the present change count, whether the phy exists, and
-- whether the source reaches it; and whether the source is group 1 (#101).
abbrev pub grounds : Shelf → ℕ → ℕ → Grounds
grounds s g p = record { changes = s.changes; there = exists s p; reached = reaches s g p; management = eqb g 1 }

-- not 04h: "91h and 93h, when bytes 4 and 5 are neither 0000h nor the present count"
unfoldable pub count_right : Grounds → ℕ → Bool
count_right on expected = one_of (0x0000 ∷ on.changes ∷ []) expected

-- not 13h: "91h, any operation not named below"
unfoldable pub known_operation : ℕ → Bool
known_operation operation = one_of (0x00 ∷ 0x01 ∷ 0x03 ∷ 0x05 ∷ []) operation

-- "10h PHY DOES NOT EXIST (functions with a phy, byte 9)", then "Not reached", with its result, then the rest
abbrev pub check_phy : Grounds → FunctionResult → FunctionResult → FunctionResult
check_phy on unreached rest =
    check on.there (Err PhyDoesNotExist)
    (check on.reached unreached
    rest)

-- "16h PHY VACANT for 11h and 14h"
abbrev pub check_read : Grounds → FunctionResult
check_read on = check_phy on (Err PhyVacant) (Ok tt)

-- "20h SMP ZONE VIOLATION for 91h and 93h", after 04h and before the contents
abbrev pub check_write : Grounds → ℕ → FunctionResult → FunctionResult
check_write on expected contents =
    check (count_right on expected) (Err InvalidExpanderChangeCount)
    (check_phy on (Err SmpZoneViolation)
    contents)

-- "13h UNKNOWN PHY OPERATION (91h, any operation not named below)"
abbrev pub check_operation : ℕ → FunctionResult
check_operation operation = check (known_operation operation) (Err UnknownPhyOperation) (Ok tt)

-- "02h SMP FUNCTION FAILED for a broadcast type above 0Fh (06h)"
abbrev pub check_kind : ℕ → FunctionResult
check_kind kind = check (leb kind 0x0F) (Err SmpFunctionFailed) (Ok tt)

-- "02h SMP FUNCTION FAILED for .. more than four descriptors (93h); then 17h UNKNOWN PHY EVENT SOURCE (93h)"
abbrev pub check_descriptors : List ℕ → ℕ → FunctionResult
check_descriptors frame d =
    check (leb d 4) (Err SmpFunctionFailed)
    (check (is_none (first_unsupported frame d 0)) (Err UnknownPhyEventSource)
    (Ok tt))

-- #101: "The index tells about phys out of reach, so only source group 1 may ask". "result 21h NO MANAGEMENT ACCESS RIGHTS for other
-- sources comes directly after 03h"
abbrev pub check_management : Grounds → FunctionResult
check_management on = check on.management (Err NoManagementAccessRights) (Ok tt)

-- The result of a request that was read from this frame, on these grounds. 01h and 03h are behind it: `judge` gives them.
unfoldable pub result_of : Grounds → List ℕ → Request → FunctionResult
result_of on frame ReportGeneral = Ok tt
result_of on frame ReportManufacturer = Ok tt
result_of on frame (ReportBroadcast kind) = check_kind kind
result_of on frame (ReportPhyErrorLog p) = check_read on
result_of on frame (ReportPhyEvent p) = check_read on
result_of on frame (ReportPhyEventList start) = check_management on
result_of on frame (PhyControl expected p operation) = check_write on expected (check_operation operation)
result_of on frame (ConfigurePhyEvent expected clear p d) = check_write on expected (check_descriptors frame d)

-- .. and so its result on this shelf, from source group g
unfoldable pub decide : Shelf → ℕ → List ℕ → Request → FunctionResult
decide s g frame request = result_of (grounds s g (phy_of request)) frame request
