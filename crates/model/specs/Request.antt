-- "judging one request frame alone (function and H6, 01h, 03h or nothing wrong)". By #103 "H6 keeps the first meaning" of its two, and
-- the judge tells H10 "as well". "Judging yields the read request or a refusal; the server takes its requests from there only." "The link
-- layer strips and checks the CRC. All frames here are without it".
use Rattle.std.specs.Prelude.{ℕ, zero, suc, ◌+◌, ◌*◌, Bool, not, cond, ◌&&◌, ◌||◌, List, [], ◌∷◌, ltb, eqb, length, Ok, Err, Option, Some, None}
use Rattle.model.specs.declared.Failure.TheVariants.{UnknownSmpFunction, InvalidRequestFrameLength}
use Rattle.model.specs.declared.House.TheVariants.{CutFrame, WrongFrame}
use Rattle.model.specs.declared.Fault.TheVariants.{NoFrame, Fails}
use Rattle.model.specs.declared.Request.{Request}
use Rattle.model.specs.declared.Request.TheVariants.{ReportGeneral, ReportManufacturer, ReportBroadcast}
use Rattle.model.specs.declared.Request.TheVariants.{ReportPhyErrorLog, ReportPhyEvent, PhyControl}
use Rattle.model.specs.declared.Request.TheVariants.{ReportPhyEventList, ConfigurePhyEvent}
use Rattle.model.specs.Answers.{Judged}
use Rattle.model.specs.Bytes.{byte, word, dword}
use Rattle.model.specs.Sources.{supported}
use Rattle.model.specs.Tests.{check, given, one_of}
use Rattle.model.specs.Zone.{bit}

-- H6: "request under 4 bytes, or first byte not 40h" were its two faults; #103: "H6 keeps the first meaning", "a cut frame".
unfoldable pub cut_frame : List ℕ → Bool
cut_frame frame = ltb (length frame) 4

-- #103: "H10, first byte not 40h, takes its turn directly after H6 and before any function result": a wrong frame, such as "a response
-- fed back as a request".
unfoldable pub wrong_frame : List ℕ → Bool
wrong_frame frame = not (eqb (byte frame 0) 0x40)

-- the function, which a request of four bytes or more has
abbrev pub function_of : List ℕ → ℕ
function_of frame = byte frame 1

-- not 01h UNKNOWN SMP FUNCTION: "not 00h, 01h, 06h, 11h, 14h, 91h or 93h", and by #101 "function 21h joins the known functions, in the
-- frame judge too"
unfoldable pub known : ℕ → Bool
known function = one_of (0x00 ∷ 0x01 ∷ 0x06 ∷ 0x11 ∷ 0x14 ∷ 0x21 ∷ 0x91 ∷ 0x93 ∷ []) function

-- of this function, this true length, and one of these lengths in byte 3
abbrev pub shaped : List ℕ → ℕ → ℕ → List ℕ → Bool
shaped frame function size lengths =
    eqb (function_of frame) function && eqb (length frame) size && one_of lengths (byte frame 3)

-- Not 03h INVALID REQUEST FRAME LENGTH: "byte 3 or the frame's true length is not as below". With d in byte 11, a 93h
-- frame has 12 + 8d bytes, as exact numbers, so one under 12 bytes fails here. #101: "The request has 8 bytes, length 01h", "with 03h for any
-- other length".
unfoldable pub length_right : List ℕ → Bool
length_right frame =
    shaped frame 0x00 4 (0x00 ∷ [])
    || shaped frame 0x01 4 (0x00 ∷ [])
    || shaped frame 0x06 4 (0x00 ∷ [])
    || shaped frame 0x11 12 (0x02 ∷ 0x00 ∷ [])
    || shaped frame 0x14 12 (0x02 ∷ [])
    || shaped frame 0x21 8 (0x01 ∷ [])
    || shaped frame 0x91 40 (0x09 ∷ 0x00 ∷ [])
    || shaped frame 0x93 (12 + 8 * byte frame 11) ((2 + 2 * byte frame 11) ∷ [])

-- 93h: "bit 0 of byte 6 clears peaks"
abbrev pub clears : List ℕ → Bool
clears frame = bit (byte frame 6) 0

-- What a frame of a known function and a right length asks: "type in byte 2" (06h), phy in byte 9, the expected count in
-- "bytes 4 and 5" (91h and 93h), "starting index in 6 and 7" (21h, #101), "operation in byte 10" (91h), "d in byte 11, bit 0 of byte 6
-- clears peaks" (93h, the one that is left).
unfoldable pub asked : List ℕ → Request
asked frame =
    cond (eqb (function_of frame) 0x00) ReportGeneral
    (cond (eqb (function_of frame) 0x01) ReportManufacturer
    (cond (eqb (function_of frame) 0x06) (ReportBroadcast (byte frame 2))
    (cond (eqb (function_of frame) 0x11) (ReportPhyErrorLog (byte frame 9))
    (cond (eqb (function_of frame) 0x14) (ReportPhyEvent (byte frame 9))
    (cond (eqb (function_of frame) 0x21) (ReportPhyEventList (word frame 6))
    (cond (eqb (function_of frame) 0x91) (PhyControl (word frame 4) (byte frame 9) (byte frame 10))
    (ConfigurePhyEvent (word frame 4) (clears frame) (byte frame 9) (byte frame 11))))))))

unfoldable pub judge : List ℕ → Judged
judge frame =
    given (cut_frame frame) (Err (NoFrame CutFrame))
    (given (wrong_frame frame) (Err (NoFrame WrongFrame))
    (check (known (function_of frame)) (Err (Fails UnknownSmpFunction))
    (check (length_right frame) (Err (Fails InvalidRequestFrameLength))
    (Ok (asked frame)))))

-- the phy of a function that has one; a request without a phy names none, and nothing asks for it
abbrev pub phy_of : Request → ℕ
phy_of ReportGeneral = 0
phy_of ReportManufacturer = 0
phy_of (ReportBroadcast kind) = 0
phy_of (ReportPhyErrorLog p) = p
phy_of (ReportPhyEvent p) = p
phy_of (ReportPhyEventList start) = 0
phy_of (PhyControl expected p operation) = p
phy_of (ConfigurePhyEvent expected clear p d) = p

-- The descriptors of a 93h, 8 bytes each from byte 12 on: "3 source (00h allowed), 4 to 7 threshold".
abbrev pub descriptor_source : List ℕ → ℕ → ℕ
descriptor_source frame i = byte frame (12 + 8 * i + 3)

abbrev pub descriptor_threshold : List ℕ → ℕ → ℕ
descriptor_threshold frame i = dword frame (12 + 8 * i + 4)

unfoldable pub allowed : ℕ → Bool
allowed source = eqb source 0x00 || supported source

-- "The first failing descriptor settles the answer, and the rest are not judged": of the n descriptors from i on,
-- the place of the first whose source is not allowed, if there is one.
unfoldable pub first_unsupported : List ℕ → ℕ → ℕ → Option ℕ
first_unsupported frame zero i = None
first_unsupported frame (suc n) i =
    let rest : Option ℕ = first_unsupported frame n (suc i) in
    cond (allowed (descriptor_source frame i)) rest (Some i)
