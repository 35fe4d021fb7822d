-- The frames, the looks and the shelves that the vectors are made of.
use Rattle.std.specs.Prelude.{ℕ, true, cond, List, [], ◌∷◌, ◌++◌, replicate, Ok, Err}
use Rattle.model.specs.declared.Monitor.{Monitor}
use Rattle.model.specs.declared.Shelf.{Shelf}
use Rattle.model.specs.Answers.{Answer}
use Rattle.model.specs.Bytes.{zeros}
use Rattle.model.specs.Cases.{sent}
use Rattle.model.specs.House.{house_number}
use Rattle.model.specs.Reply.{error_at, monitor_at}
use Rattle.model.specs.Runs.{Operation}
use Rattle.model.specs.Shelf.{monitor, phy_with, phy_at, put, put_device}
use Rattle.model.specs.ShelfW.{shelf_w}

-- ---- Frames

-- 11h, 14h: function, byte 3, phy
abbrev pub read_phy_frame : ℕ → ℕ → ℕ → List ℕ
read_phy_frame function byte3 p = 0x40 ∷ function ∷ 0x00 ∷ byte3 ∷ 0x00 ∷ 0x00 ∷ 0x00 ∷ 0x00 ∷ 0x00 ∷ p ∷ 0x00 ∷ 0x00 ∷ []

-- 06h: type
abbrev pub read_broadcasts_frame : ℕ → List ℕ
read_broadcasts_frame kind = 0x40 ∷ 0x06 ∷ kind ∷ 0x00 ∷ []

-- 91h: byte 3, the low byte of the expected count, phy, operation
abbrev pub control_frame : ℕ → ℕ → ℕ → ℕ → List ℕ
control_frame byte3 expected p operation =
    (0x40 ∷ 0x91 ∷ 0x00 ∷ byte3 ∷ 0x00 ∷ expected ∷ 0x00 ∷ 0x00 ∷ 0x00 ∷ p ∷ operation ∷ []) ++ zeros 29

-- 93h: byte 3, the low byte of the expected count, byte 6, phy, number of descriptors, and these
abbrev pub configure_frame : ℕ → ℕ → ℕ → ℕ → ℕ → List ℕ → List ℕ
configure_frame byte3 expected byte6 p d descriptors =
    (0x40 ∷ 0x93 ∷ 0x00 ∷ byte3 ∷ 0x00 ∷ expected ∷ byte6 ∷ 0x00 ∷ 0x00 ∷ p ∷ 0x00 ∷ d ∷ []) ++ descriptors

-- a descriptor of a 93h: source, and the last byte of the threshold
abbrev pub watch : ℕ → ℕ → List ℕ
watch source threshold = 0x00 ∷ 0x00 ∷ 0x00 ∷ source ∷ 0x00 ∷ 0x00 ∷ 0x00 ∷ threshold ∷ []

-- what stands in a lent buffer of n bytes
abbrev pub old : ℕ → List ℕ
old n = replicate n 0xEE

-- ---- What is looked at: of phy 0, and of an answer

abbrev pub monitor_numbers : Monitor → List ℕ
monitor_numbers m = m.source ∷ m.value ∷ m.threshold ∷ []

-- source, value and threshold of each monitor
abbrev pub monitors0 : Shelf → List ℕ
monitors0 s =
    monitor_numbers (monitor_at (phy_at s 0) 0)
    ++ monitor_numbers (monitor_at (phy_at s 0) 1)
    ++ monitor_numbers (monitor_at (phy_at s 0) 2)
    ++ monitor_numbers (monitor_at (phy_at s 0) 3)

-- Change, Expander 1h and Expander 2h, and the change count
abbrev pub counts0 : Shelf → List ℕ
counts0 s = (phy_at s 0).change0 ∷ (phy_at s 0).expander1 ∷ (phy_at s 0).expander2 ∷ s.changes ∷ []

-- 1 where it is enabled, its Change, and the change count
abbrev pub link0 : Shelf → List ℕ
link0 s = cond (phy_at s 0).enabled 1 0 ∷ (phy_at s 0).change0 ∷ s.changes ∷ []

-- the four error counts
abbrev pub errors0 : Shelf → List ℕ
errors0 s = error_at (phy_at s 0) 0 ∷ error_at (phy_at s 0) 1 ∷ error_at (phy_at s 0) 2 ∷ error_at (phy_at s 0) 3 ∷ []

-- what the caller of a request is told: 0 and the length of the response, or the number of the house refusal
abbrev pub answer_numbers : Answer → List ℕ
answer_numbers (Ok size) = 0 ∷ size ∷ []
answer_numbers (Err house) = house_number house ∷ []

-- ---- Shelves

abbrev pub with_counts : Shelf → ℕ → ℕ → ℕ → ℕ → Shelf
with_counts s p change0 expander1 expander2 =
    put s p
    (phy_with (phy_at s p) (phy_at s p).enabled (phy_at s p).errors (phy_at s p).monitors change0 expander1 expander2)
    s.changes

-- shelf W where every phy has counts: phy p has 0100h + p, 0200h + p and 0300h + p, and FFh has 0400h and 0500h
abbrev pub counts_w : Shelf
counts_w =
    let s0 : Shelf = with_counts shelf_w 0 0x0100 0x0200 0x0300 in
    let s1 : Shelf = with_counts s0 1 0x0101 0x0201 0x0301 in
    let s2 : Shelf = with_counts s1 2 0x0102 0x0202 0x0302 in
    let s3 : Shelf = with_counts s2 3 0x0103 0x0203 0x0303 in
    put_device s3 0x0400 0x0500

-- shelf W where each broadcast count of phy 0, and each under FFh, stands at FFFFh
abbrev pub full_w : Shelf
full_w = put_device (with_counts shelf_w 0 0xFFFF 0xFFFF 0xFFFF) 0xFFFF 0xFFFF

-- countsW where no number of phy 0 is 0, and the change count is 0007h
abbrev pub busy_w : Shelf
busy_w =
    put counts_w 0
    (phy_with (phy_at counts_w 0) true
    (11 ∷ 12 ∷ 13 ∷ 14 ∷ [])
    (monitor 0x2D 9 10 ∷ monitor 0x2C 8 20 ∷ monitor 0x02 7 5 ∷ monitor 0x40 6 1 ∷ [])
    0x0100
    0x0200
    0x0300)
    0x0007

-- phy 0 is to watch 2Dh with threshold 10, 2Dh with threshold 11, 02h with threshold 5, and nothing
abbrev pub watching : Operation
watching = sent 8 (configure_frame 0x0A 0x01 0x00 0 4 (watch 0x2D 10 ++ watch 0x2D 11 ++ watch 0x02 5 ++ watch 0x00 0))
