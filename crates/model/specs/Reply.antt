-- "Frames": the response to each function, byte by byte. (The type `Reply`, a response or a house refusal, is in `Server`.)
use Rattle.std.specs.Prelude.{ℕ, ◌+◌, ◌-◌, ◌*◌, cond, List, [], ◌∷◌, ◌++◌, eqb, length, get_or}
use Rattle.model.specs.declared.Entry.{Entry}
use Rattle.model.specs.declared.Monitor.{Monitor}
use Rattle.model.specs.declared.Phy.{Phy}
use Rattle.model.specs.declared.Request.{Request}
use Rattle.model.specs.declared.Request.TheVariants.{ReportGeneral, ReportManufacturer, ReportBroadcast}
use Rattle.model.specs.declared.Request.TheVariants.{ReportPhyErrorLog, ReportPhyEvent, PhyControl}
use Rattle.model.specs.declared.Request.TheVariants.{ReportPhyEventList, ConfigurePhyEvent}
use Rattle.model.specs.declared.Shelf.{Shelf}
use Rattle.model.specs.declared.Store.{Store}
use Rattle.model.specs.Bytes.{one, two, four, text, zeros, laid}
use Rattle.model.specs.Shelf.{phy_number, phy_at, fresh_monitor}
use Rattle.model.specs.Store.{first_returned, returned}
use Rattle.model.specs.Tests.{join_below}
use Rattle.model.specs.Zone.{row, row_reaches}

-- "A failed response is 41h, the function, the result, 00h."
abbrev pub failed : ℕ → ℕ → List ℕ
failed function result = 0x41 ∷ function ∷ result ∷ 0x00 ∷ []

-- "Response byte 0 is 41h, byte 1 the function, byte 2 the result, byte 3 the number of dwords that follow. Bytes not named
-- are 0". An accepted one: its function, its size in bytes, its length in dwords, and the bytes that are named.
abbrev pub response : ℕ → ℕ → ℕ → List (ℕ × List ℕ) → List ℕ
response function size dwords named = laid (0x41 ∷ function ∷ 0x00 ∷ dwords ∷ zeros (size - 4)) named

-- "Except for 91h and 93h, an accepted response has the change count in bytes 4 and 5."
abbrev pub change_count : ℕ → ℕ × List ℕ
change_count changes = (4, two changes)

-- 00h: "Response 36 bytes, length 08h: 9 number of phys, 12 to 19 identifier."
unfoldable pub report_general : ℕ → ℕ → List ℕ → List ℕ
report_general changes number identifier =
    response 0x00 36 0x08 (change_count changes ∷ (9, one number) ∷ (12, identifier) ∷ [])

-- 01h: "Response 60 bytes, length 0Eh: 12 to 19 the fixed text `RAILYARD`, 20 to 35 `PORTAL SHELF` and four spaces, 36 to 39 `0001`."
unfoldable pub report_manufacturer : ℕ → List ℕ
report_manufacturer changes =
    response 0x01 60 0x0E
    (change_count changes ∷ (12, text "RAILYARD") ∷ (20, text "PORTAL SHELF    ") ∷ (36, text "0001") ∷ [])

-- 11h: "Response 28 bytes, length 06h: 9 phy, then invalid dwords at 12, disparity errors at 16, lost synchronization at 20,
-- reset problems at 24."
abbrev pub error_at : Phy → ℕ → ℕ
error_at x i = get_or x.errors i 0

unfoldable pub report_phy_error_log : ℕ → ℕ → Phy → List ℕ
report_phy_error_log changes p x =
    response 0x11 28 0x06
    (change_count changes
    ∷ (9, one p)
    ∷ (12, four (error_at x 0))
    ∷ (16, four (error_at x 1))
    ∷ (20, four (error_at x 2))
    ∷ (24, four (error_at x 3))
    ∷ [])

-- 14h: "Response 64 bytes, length 0Fh: 9 phy, 15 the number 4, then from 16 four descriptors of 12 bytes: 3 source,
-- 4 to 7 value, 8 to 11 threshold."
abbrev pub monitor_at : Phy → ℕ → Monitor
monitor_at x i = get_or x.monitors i fresh_monitor

abbrev pub event_descriptor : Monitor → List ℕ
event_descriptor m = laid (zeros 12) ((3, one m.source) ∷ (4, four m.value) ∷ (8, four m.threshold) ∷ [])

unfoldable pub report_phy_event : ℕ → ℕ → Phy → List ℕ
report_phy_event changes p x =
    response 0x14 64 0x0F
    (change_count changes
    ∷ (9, one p)
    ∷ (15, one 4)
    ∷ (16, event_descriptor (monitor_at x 0))
    ∷ (28, event_descriptor (monitor_at x 1))
    ∷ (40, event_descriptor (monitor_at x 2))
    ∷ (52, event_descriptor (monitor_at x 3))
    ∷ [])

-- 06h lists broadcast counts: each with its phy or FFh, and its reason. "Every non-zero count": a count of 0 gives no entry.
pub record Broadcast : Type 0 where
  pub phy : ℕ
  pub reason : ℕ
  pub count : ℕ

abbrev pub entry : ℕ → ℕ → ℕ → Broadcast
entry p r n = record { phy = p; reason = r; count = n }

abbrev pub listed : ℕ → ℕ → ℕ → List Broadcast
listed p r n = cond (eqb n 0) [] (entry p r n ∷ [])

-- "two broadcast counts under FFh: Expander 3h (reduced functionality) and SES 0h"; SES is type 3h, Expander type 4h
unfoldable pub device_listed : ℕ → ℕ → ℕ → List Broadcast
device_listed kind expander3 ses0 =
    cond (eqb kind 0x3) (listed 0xFF 0x0 ses0)
    (cond (eqb kind 0x4) (listed 0xFF 0x3 expander3)
    [])

-- "three broadcast counts: Change reason 0h, Expander 1h and 2h"; Change is type 0h
unfoldable pub phy_listed : ℕ → ℕ → Phy → List Broadcast
phy_listed kind p x =
    cond (eqb kind 0x0) (listed p 0x0 x.change0)
    (cond (eqb kind 0x4) (listed p 0x1 x.expander1 ++ listed p 0x2 x.expander2)
    [])

-- "A source sees FFh and the phys it reaches": what a source with this row sees of phy p
abbrev pub seen_listed : ℕ → ℕ → ℕ → Phy → List Broadcast
seen_listed r kind p x = cond (row_reaches r x.group) (phy_listed kind p x) []

-- "Every non-zero count of that type that the source may see is listed: FFh first, then phys rising, then reason rising.
-- A source sees FFh and the phys it reaches. Types other than 0h, 3h and 4h list nothing."
unfoldable pub broadcasts : Shelf → ℕ → ℕ → List Broadcast
broadcasts s g kind =
    device_listed kind s.expander3 s.ses0
    ++ join_below (phy_number s) (λ p. seen_listed (row s.table g) kind p (phy_at s p))

-- "n descriptors of 8 bytes .. Descriptor: 0 phy, 2 reason, 4 and 5 count." (A T10 paper shows it as 16 bytes too; 8 holds.)
abbrev pub broadcast_descriptor : Broadcast → List ℕ
broadcast_descriptor b = laid (zeros 8) ((0, one b.phy) ∷ (2, one b.reason) ∷ (4, two b.count) ∷ [])

-- descriptors one behind another, where `of` gives the bytes of one
unfoldable pub descriptors : {A : Type 0} → (A → List ℕ) → List A → List ℕ
descriptors of [] = []
descriptors of (x ∷ xs) = of x ++ descriptors of xs

abbrev pub broadcast_bytes : List Broadcast → List ℕ
broadcast_bytes bs = descriptors broadcast_descriptor bs

-- 06h: "Response: 6 type, 7 number n, then n descriptors of 8 bytes, length 1 + 2n."
abbrev pub broadcast_head : ℕ → ℕ → ℕ → List ℕ
broadcast_head changes kind n = response 0x06 8 (1 + 2 * n) (change_count changes ∷ (6, one kind) ∷ (7, one n) ∷ [])

abbrev pub broadcast_frame : ℕ → ℕ → List Broadcast → List ℕ
broadcast_frame changes kind bs = broadcast_head changes kind (length bs) ++ broadcast_bytes bs

unfoldable pub report_broadcast : Shelf → ℕ → ℕ → List ℕ
report_broadcast s g kind = broadcast_frame s.changes kind (broadcasts s g kind)

-- #101, 21h: "The response has 4 and 5 the change count, 6 and 7 the first index returned, 8 and 9 the last index stored (0000h if none),
-- 10 the number 3, 11 the number of descriptors". Its length in dwords is 2 + 3n.
abbrev pub event_list_head : ℕ → ℕ → ℕ → ℕ → List ℕ
event_list_head changes first last n =
    response 0x21 12 (2 + 3 * n) (change_count changes ∷ (6, two first) ∷ (8, two last) ∷ (10, one 3) ∷ (11, one n) ∷ [])

-- ".. then from 12 descriptors of 12 bytes as in 14h with the phy at byte 2, oldest first"
abbrev pub entry_descriptor : Entry → List ℕ
entry_descriptor e = laid (event_descriptor e.monitor) ((2, one e.phy) ∷ [])

abbrev pub event_list_frame : ℕ → ℕ → ℕ → List Entry → List ℕ
event_list_frame changes first last es = event_list_head changes first last (length es) ++ descriptors entry_descriptor es

unfoldable pub report_phy_event_list : ℕ → Store → ℕ → List ℕ
report_phy_event_list changes k start = event_list_frame changes (first_returned k start) k.last (returned k start)

-- The accepted response to each request, to source group g. 91h and 93h: "Response 4 bytes."
unfoldable pub respond : Shelf → ℕ → Request → List ℕ
respond s g ReportGeneral = report_general s.changes (phy_number s) s.identifier
respond s g ReportManufacturer = report_manufacturer s.changes
respond s g (ReportBroadcast kind) = report_broadcast s g kind
respond s g (ReportPhyErrorLog p) = report_phy_error_log s.changes p (phy_at s p)
respond s g (ReportPhyEvent p) = report_phy_event s.changes p (phy_at s p)
respond s g (ReportPhyEventList start) = report_phy_event_list s.changes s.store start
respond s g (PhyControl expected p operation) = response 0x91 4 0x00 []
respond s g (ConfigurePhyEvent expected clear p d) = response 0x93 4 0x00 []
