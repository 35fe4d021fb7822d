-- Every response, accepted or failed, has 4 bytes and 4 for each dword that byte 3 says, at most 400 in all, and every byte is below 256
-- where the frame's bytes are and the shelf's numbers fit their widths. Assumes nothing.
use Rattle.std.specs.Prelude.{Ok, Err}
use Prim.Native.Nat.{ℕ, ◌+◌, ◌*◌, ◌≤◌, ◌<◌, zero-le}
use native.Mathlib.Nat.{le_refl}
use native.Mathlib.Omega.{arith}
use mathlib.Core.Path.{◌≡◌, refl, subst}
use mathlib.Core.Bool.{Bool, true, false, cond}
use mathlib.Core.List.{List, [], ◌∷◌, Memᴰ}
use borrow.Author.Tests.{ltb-true, ltb-false, eqb-true}
use lib.Dec.{T, ltb, eqb}
use lib.ListN.{length, take, drop, length-append, get_or-eq_default}
use lib.Seq.{sets, length-sets}
use Rattle.model.specs.declared.Entry.{Entry}
use Rattle.model.specs.declared.Failure.{Failure}
use Rattle.model.specs.declared.Failure.TheVariants.{UnknownSmpFunction, SmpFunctionFailed}
use Rattle.model.specs.declared.Failure.TheVariants.{InvalidRequestFrameLength, InvalidExpanderChangeCount}
use Rattle.model.specs.declared.Failure.TheVariants.{PhyDoesNotExist, UnknownPhyOperation, PhyVacant}
use Rattle.model.specs.declared.Failure.TheVariants.{UnknownPhyEventSource, SmpZoneViolation}
use Rattle.model.specs.declared.Failure.TheVariants.{NoManagementAccessRights}
use Rattle.model.specs.declared.Phy.{Phy}
use Rattle.model.specs.declared.Request.{Request}
use Rattle.model.specs.declared.Request.TheVariants.{ReportGeneral, ReportManufacturer, ReportBroadcast}
use Rattle.model.specs.declared.Request.TheVariants.{ReportPhyErrorLog, ReportPhyEvent, ReportPhyEventList, PhyControl, ConfigurePhyEvent}
use Rattle.model.specs.declared.Shelf.{Shelf}
use Rattle.model.specs.declared.Store.{Store}
use Rattle.model.specs.Answers.{FunctionResult}
use Rattle.model.specs.Bytes.{byte, one}
use Rattle.model.specs.Fits.{BytesFit, EntryFits, Fits}
use Rattle.model.specs.Reply.{failed, response, change_count, report_general, report_manufacturer, report_phy_error_log}
use Rattle.model.specs.Reply.{monitor_at, report_phy_event, Broadcast, listed, device_listed, phy_listed, seen_listed}
use Rattle.model.specs.Reply.{descriptors, broadcast_descriptor, broadcasts, report_broadcast, entry_descriptor, report_phy_event_list, respond}
use Rattle.model.specs.Request.{function_of, known, asked}
use Rattle.model.specs.Results.{failure_code, result_code}
use Rattle.model.specs.Server.{Sends, handle}
use Rattle.model.specs.Shelf.{phy_number, no_phy, phy_at, fresh_monitor}
use Rattle.model.specs.Store.{returned}
use Rattle.model.specs.Zone.{row, row_reaches}
use Rattle.model.proofs.Laws.Handled.{verdict, sent_all, accepted_decided}
use Rattle.model.proofs.Laws.Join.{join_few}
use Rattle.model.proofs.Laws.Places.{All, all_append, all_each, each_all, cut_each, sets_each, sets_before, replicate_each}
use Rattle.model.proofs.Laws.Tests.{cond_both}
use Rattle.model.proofs.Plain.Reply.{broadcast_bytes_length, entry_bytes_length, of_phy, listed_iff, kept_small}
use Rattle.model.proofs.Plain.Request.{by_function}
use Rattle.model.proofs.Plain.EventList.{returned_few, returned_all}

-- "Response byte 0 is 41h, byte 1 the function, byte 2 the result, byte 3 the number of dwords that follow." The longest is a 06h, of 8 bytes
-- and 49 descriptors of 8; a 21h has 12 and at most 32 descriptors of 12; 1,028 are lent.
pub record Framed (function result : ℕ) (bytes : List ℕ) : Type 0 where
  pub byte_0 : byte bytes 0 ≡ 0x41
  pub byte_1 : byte bytes 1 ≡ function
  pub byte_2 : byte bytes 2 ≡ result
  pub byte_3 : length bytes ≡ 4 + 4 * byte bytes 3
  pub longest : length bytes ≤ 400

-- the function that a request asks for
abbrev pub request_function : Request → ℕ
request_function ReportGeneral = 0x00
request_function ReportManufacturer = 0x01
request_function (ReportBroadcast kind) = 0x06
request_function (ReportPhyErrorLog p) = 0x11
request_function (ReportPhyEvent p) = 0x14
request_function (ReportPhyEventList start) = 0x21
request_function (PhyControl expected p operation) = 0x91
request_function (ConfigurePhyEvent expected clear p d) = 0x93

-- ---- how much 06h lists

abbrev pub AtMost : ℕ → List Broadcast → Type 0
AtMost n bs = length bs ≤ n

pub listed_few : (p r n : ℕ) → AtMost 1 (listed p r n)
listed_few p r n = cond_both (AtMost 1) (eqb n 0) _ _ zero-le (le_refl 1)

pub device_few : (kind expander3 ses0 : ℕ) → AtMost 1 (device_listed kind expander3 ses0)
unfolding device_listed
device_few kind expander3 ses0 =
    cond_both (AtMost 1) (eqb kind 0x3) _ _ (listed_few 0xFF 0x0 ses0)
    (cond_both (AtMost 1) (eqb kind 0x4) _ _ (listed_few 0xFF 0x3 expander3) zero-le)

pub phy_few : (kind p : ℕ) (x : Phy) → AtMost 2 (phy_listed kind p x)
unfolding phy_listed
phy_few kind p x =
    cond_both (AtMost 2) (eqb kind 0x0) _ _ (omega (arith, listed_few p 0x0 x.change0))
    (cond_both (AtMost 2) (eqb kind 0x4) _ _
    (simp length-append (omega (arith, listed_few p 0x1 x.expander1, listed_few p 0x2 x.expander2)))
    zero-le)

pub seen_few : (r kind p : ℕ) (x : Phy) → AtMost 2 (seen_listed r kind p x)
seen_few r kind p x = cond_both (AtMost 2) (row_reaches r x.group) _ _ (phy_few kind p x) zero-le

-- one count under FFh, and two of each of at most 24 phys
pub broadcasts_few : (s : Shelf) (g kind : ℕ) → length (broadcasts s g kind) ≤ 49
unfolding broadcasts
broadcasts_few s g kind =
    let few : (p : ℕ) → AtMost 2 (of_phy s g kind p) = λ p. seen_few (row s.table g) kind p (phy_at s p) in
    simp length-append (omega (arith, device_few kind s.expander3 s.ses0, join_few (phy_number s) 2 (of_phy s g kind) few))

-- ---- the head and the length

-- bytes written from byte 4 or a later one on leave it so
sets_framed : (function result : ℕ) (bytes values : List ℕ) (place : ℕ) → 4 ≤ place → Framed function result bytes
    → Framed function result (sets bytes place values)
sets_framed function result bytes values place past framed =
    let stays : (i : ℕ) → i < 4 → byte (sets bytes place values) i ≡ byte bytes i =
    λ i below. sets_before values bytes place i 0x00 (omega arith) in
    omega (
      arith,
      length-sets bytes place values,
      stays 0 (omega arith),
      stays 1 (omega arith),
      stays 2 (omega arith),
      stays 3 (omega arith),
    )

-- every accepted response, of any shelf
pub respond_framed : (s : Shelf) (g : ℕ) (request : Request)
    → Framed (request_function request) 0x00 (respond s g request)
unfolding respond report_general report_manufacturer report_broadcast report_phy_error_log report_phy_event report_phy_event_list
respond_framed s g ReportGeneral = sets_framed 0x00 0x00 _ s.identifier 12 (omega arith) (omega arith)
respond_framed s g ReportManufacturer = omega arith
respond_framed s g (ReportBroadcast kind) =
    omega (arith, broadcasts_few s g kind, broadcast_bytes_length (broadcasts s g kind))
respond_framed s g (ReportPhyErrorLog p) = omega arith
respond_framed s g (ReportPhyEvent p) = omega arith
respond_framed s g (ReportPhyEventList start) =
    omega (arith, returned_few s.store start, entry_bytes_length (returned s.store start))
respond_framed s g (PhyControl expected p operation) = omega arith
respond_framed s g (ConfigurePhyEvent expected clear p d) = omega arith

-- #101: a response to 21h has at most 396 bytes, of any store
pub event_list_longest : (changes : ℕ) (k : Store) (start : ℕ) → length (report_phy_event_list changes k start) ≤ 396
unfolding report_phy_event_list
event_list_longest changes k start = omega (arith, returned_few k start, entry_bytes_length (returned k start))

-- a frame of a known function asks for that function
asked_function : (frame : List ℕ) → T (known (function_of frame)) → request_function (asked frame) ≡ function_of frame
asked_function frame t =
    by_function frame (λ function request. request_function request ≡ function) t refl refl refl refl refl refl refl refl

-- Every response. `handle .. .reply` is the bytes that `lent_after` puts at the front of the lent buffer, and whose number `served` tells.
-- A failed one too: "A failed response is 41h, the function, the result, 00h."
pub response_framed : (s : Shelf) (g : ℕ) (frame : List ℕ) (room : ℕ) (bytes : List ℕ)
    → (handle s g frame room).reply ≡ Sends bytes → Framed (function_of frame) (result_code (verdict s g frame)) bytes
response_framed s g frame room =
    sent_all (Framed (function_of frame) (result_code (verdict s g frame))) s g frame room (omega arith)
    (λ e.
    rw (eqb-true (result_code (verdict s g frame)) 0x00 e)
    (subst (λ (f : ℕ). Framed f 0x00 (respond s g (asked frame)))
    (asked_function frame (rw (accepted_decided s g frame e).0 tt))
    (respond_framed s g (asked frame))))

-- ---- every byte fits

abbrev Small : ℕ → Type 0
Small n = n ≤ 0xFF

-- byte by byte, in two parts: `omega` goes into a goal no more than 32 parts deep
fits_by : (bytes : List ℕ) → All Small (take 32 bytes) → All Small (drop 32 bytes) → BytesFit bytes
fits_by bytes front back = cut_each Small 0x00 32 bytes front (all_each Small 0x00 (drop 32 bytes) zero-le back)

failure_small : (failure : Failure) → Small (failure_code failure)
failure_small UnknownSmpFunction = omega arith
failure_small SmpFunctionFailed = omega arith
failure_small InvalidRequestFrameLength = omega arith
failure_small InvalidExpanderChangeCount = omega arith
failure_small PhyDoesNotExist = omega arith
failure_small UnknownPhyOperation = omega arith
failure_small PhyVacant = omega arith
failure_small UnknownPhyEventSource = omega arith
failure_small SmpZoneViolation = omega arith
failure_small NoManagementAccessRights = omega arith

result_small : (result : FunctionResult) → Small (result_code result)
result_small (Ok accepted) = zero-le
result_small (Err failure) = failure_small failure

-- what a response repeats of its request: the type (06h) or the phy (11h and 14h)
abbrev repeated : Request → ℕ
repeated ReportGeneral = 0x00
repeated ReportManufacturer = 0x00
repeated (ReportBroadcast kind) = kind
repeated (ReportPhyErrorLog p) = p
repeated (ReportPhyEvent p) = p
repeated (ReportPhyEventList start) = 0x00
repeated (PhyControl expected p operation) = 0x00
repeated (ConfigurePhyEvent expected clear p d) = 0x00

repeated_small : (frame : List ℕ) → BytesFit frame → Small (repeated (asked frame))
unfolding asked
repeated_small frame fit =
    either 0x00 _ _ zero-le
    (either 0x01 _ _ zero-le
    (either 0x06 _ _ (fit 2)
    (either 0x11 _ _ (fit 9)
    (either 0x14 _ _ (fit 9)
    (either 0x21 _ _ zero-le
    (either 0x91 _ _ zero-le zero-le))))))
  where
    either : (k : ℕ) (a b : Request) → Small (repeated a) → Small (repeated b)
        → Small (repeated (cond (eqb (function_of frame) k) a b))
    either k = cond_both (λ r. Small (repeated r)) (eqb (function_of frame) k)

-- the sources of a phy's monitors, also where there is no such phy
source_small : (s : Shelf) → Fits s → (p i : ℕ) → Small (monitor_at (phy_at s p) i).source
source_small s fits p i = go (ltb p 24) refl
  where
    go : (b : Bool) → ltb p 24 ≡ b → Small (monitor_at (phy_at s p) i).source
    go true e = ((fits.phys p (ltb-true p 24 e)).monitors i).source
    go false e =
        rw (get_or-eq_default s.phys no_phy {n = p} (omega (arith, ltb-false p 24 e)))
        (replicate_each (λ m. Small m.source) fresh_monitor 4 zero-le i)

-- descriptors whose bytes fit
descriptors_small : {A : Type 0} (of : A → List ℕ) (xs : List A) → All (λ x. All Small (of x)) xs → All Small (descriptors of xs)
unfolding descriptors
descriptors_small of [] all = tt
descriptors_small of (x ∷ xs) all = all_append Small (of x) (descriptors of xs) all.0 (descriptors_small of xs all.1)

descriptors_fit : {A : Type 0} (of : A → List ℕ) (xs : List A) → All (λ x. All Small (of x)) xs → BytesFit (descriptors of xs)
descriptors_fit of xs all = all_each Small 0x00 (descriptors of xs) zero-le (descriptors_small of xs all)

broadcasts_fit : (bs : List Broadcast) → ((b : Broadcast) → Memᴰ b bs → Small b.phy × (b.reason < 4))
    → All (λ b. All Small (broadcast_descriptor b)) bs
broadcasts_fit [] small = tt
broadcasts_fit (b ∷ bs) small =
    (omega (arith, small b (Memᴰ.head refl)), broadcasts_fit bs (λ c m. small c (Memᴰ.tail m)))

entry_fits : (e : Entry) → EntryFits e → All Small (entry_descriptor e)
entry_fits e f = omega (arith, f.phy, f.monitor.source)

respond_fits : (s : Shelf) (g : ℕ) (request : Request) → Fits s → Small (repeated request) → BytesFit (respond s g request)
unfolding respond report_general report_manufacturer report_broadcast report_phy_error_log report_phy_event report_phy_event_list
respond_fits s g ReportGeneral fits small =
    let before : List ℕ = response 0x00 36 0x08 (change_count s.changes ∷ (9, one (phy_number s)) ∷ []) in
    sets_each Small 0x00 s.identifier before 12 (each_all Small 0x00 s.identifier fits.identifier)
    (fits_by before (omega arith) (omega arith))
respond_fits s g ReportManufacturer fits small = fits_by (report_manufacturer s.changes) (omega arith) (omega arith)
respond_fits s g (ReportBroadcast kind) fits small =
    cut_each Small 0x00 8 (report_broadcast s g kind) (omega (arith, broadcasts_few s g kind))
    (descriptors_fit broadcast_descriptor (broadcasts s g kind)
    (broadcasts_fit (broadcasts s g kind)
    (λ b m.
    kept_small s kind b.phy b.reason b.count ((listed_iff s g kind b.phy b.reason b.count).0 m).0)))
respond_fits s g (ReportPhyErrorLog p) fits small = fits_by (report_phy_error_log s.changes p (phy_at s p)) (omega arith) tt
respond_fits s g (ReportPhyEvent p) fits small =
    let source : (i : ℕ) → Small (monitor_at (phy_at s p) i).source = source_small s fits p in
    fits_by (report_phy_event s.changes p (phy_at s p)) (omega (arith, source 0, source 1)) (omega (arith, source 2, source 3))
respond_fits s g (ReportPhyEventList start) fits small =
    let es : List Entry = returned s.store start in
    cut_each Small 0x00 12 (report_phy_event_list s.changes s.store start) (omega (arith, returned_few s.store start))
    (descriptors_fit entry_descriptor es
    (returned_all (λ e. All Small (entry_descriptor e)) s.store start (λ i. entry_fits _ (fits.store.entries i))))
respond_fits s g (PhyControl expected p operation) fits small = fits_by (response 0x91 4 0x00 []) (omega arith) tt
respond_fits s g (ConfigurePhyEvent expected clear p d) fits small = fits_by (response 0x93 4 0x00 []) (omega arith) tt

-- every byte of every response
pub response_fits : (s : Shelf) (g : ℕ) (frame : List ℕ) (room : ℕ) (bytes : List ℕ) → Fits s → BytesFit frame
    → (handle s g frame room).reply ≡ Sends bytes → BytesFit bytes
response_fits s g frame room bytes fits fit =
    let code : Small (result_code (verdict s g frame)) = result_small (verdict s g frame) in
    sent_all BytesFit s g frame room
    (fits_by (failed (function_of frame) (result_code (verdict s g frame))) (omega (arith, fit 1)) tt)
    (λ e. respond_fits s g (asked frame) fits (repeated_small frame fit))
    bytes
