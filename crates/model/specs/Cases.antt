-- "The marked (P) cases are proved of the definitions, gathered as a single checked list": cases 1 to 11, each with what was asked and
-- what must come. "Freshly started for each case; where no source is named it is 1." `proofs/Cases` has the theorem that all hold.
use Rattle.std.specs.Prelude.{ℕ, List, [], ◌∷◌, ◌++◌, set, Err, Ok}
use Rattle.model.specs.declared.Phy.{Phy}
use Rattle.model.specs.declared.Shelf.{Shelf}
use Rattle.model.specs.Answers.{Reach}
use Rattle.model.specs.Bytes.{zeros}
use Rattle.model.specs.Hex.{hex}
use Rattle.model.specs.House.{house_number}
use Rattle.model.specs.Reach.{reach_query}
use Rattle.model.specs.Reply.{error_at, monitor_at}
use Rattle.model.specs.Runs.{Operation, ReducedFunctionality, LinkChange, Event, Ask, after}
use Rattle.model.specs.Server.{Reply, Refuses, Sends, handle}
use Rattle.model.specs.Shelf.{monitor, phy_with, phy_at, put}
use Rattle.model.specs.ShelfW.{shelf_w}

-- What is asked at the end of a case: a request from a source group, with a buffer of 1,028 bytes or of another length that is
-- named first, the reach of a source group, or some numbers that the shelf gives.
pub data Question : Type 0 where
  Send : ℕ → List ℕ → Question
  Lend : ℕ → ℕ → List ℕ → Question
  ReachOf : ℕ → Question
  Look : (Shelf → List ℕ) → Question

-- What comes: a house refusal by its number, the bytes of a response, a reach set and its number, or the shelf's numbers.
pub data Comes : Type 0 where
  H : ℕ → Comes
  Bytes : List ℕ → Comes
  Set : ℕ → ℕ → Comes
  Numbers : List ℕ → Comes

-- A case: a number for the reader (here document 01's; the vectors say what theirs is), the shelf, what happens first, what is asked,
-- and what must come.
pub record Case : Type 0 where
  pub number : ℕ
  pub shelf : Shelf
  pub first : List Operation
  pub asked : Question
  pub due : Comes

abbrev pub of_reply : Reply → Comes
of_reply (Refuses house) = H (house_number house)
of_reply (Sends bytes) = Bytes bytes

abbrev pub of_reach : Reach → Comes
of_reach (Ok reached) = Set reached.phys reached.number
of_reach (Err house) = H (house_number house)

abbrev pub find : Shelf → Question → Comes
find s (Send g frame) = of_reply (handle s g frame 1028).reply
find s (Lend room g frame) = of_reply (handle s g frame room).reply
find s (ReachOf g) = of_reach (reach_query s g)
find s (Look at) = Numbers (at s)

abbrev pub came : Case → Comes
came c = find (after c.shelf c.first) c.asked

-- a request that is sent before the question
abbrev pub sent : ℕ → List ℕ → Operation
sent g frame = Ask g frame (zeros 1028)

-- a case on some shelf, with what happens first
abbrev pub on : ℕ → Shelf → List Operation → Question → Comes → Case
on n s first asked due = record { number = n; shelf = s; first = first; asked = asked; due = due }

-- a case on shelf W, freshly started, with nothing before it
abbrev pub fresh : ℕ → Question → Comes → Case
fresh n asked due = on n shelf_w [] asked due

abbrev pub phy_broadcasts : Phy → List ℕ
phy_broadcasts x = x.change0 ∷ x.expander1 ∷ x.expander2 ∷ []

-- every broadcast count of shelf W: those under FFh, then each phy's three
abbrev pub broadcast_counts : Shelf → List ℕ
broadcast_counts s =
    (s.expander3 ∷ s.ses0 ∷ [])
    ++ phy_broadcasts (phy_at s 0)
    ++ phy_broadcasts (phy_at s 1)
    ++ phy_broadcasts (phy_at s 2)
    ++ phy_broadcasts (phy_at s 3)

-- Case 10 starts from shelf W with the change count at FFFFh.
abbrev pub last_count_w : Shelf
last_count_w = put shelf_w 0 (phy_at shelf_w 0) 0xFFFF

-- Case 11 starts from shelf W with phy 0's first monitor on 01h at FFFFFFFEh, and its invalid dwords at FFFFFFFEh.
abbrev pub near_end : Phy → Phy
near_end x =
    phy_with x x.enabled
    (0xFFFFFFFE ∷ 0 ∷ 0 ∷ 0 ∷ [])
    (set x.monitors 0 (monitor 0x01 0xFFFFFFFE 0))
    x.change0
    x.expander1
    x.expander2

abbrev pub near_end_w : Shelf
near_end_w = put shelf_w 0 (near_end (phy_at shelf_w 0)) shelf_w.changes

unfoldable pub cases : List Case
cases =
    -- 1. Reach of 8: 0000000Bh, 3. Of 9: 0000000Ch, 2. Of 0: 00000008h, 1. Of 32: H4.
    fresh 1 (ReachOf 8) (Set 0x0000000B 3)
    ∷ fresh 1 (ReachOf 9) (Set 0x0000000C 2)
    ∷ fresh 1 (ReachOf 0) (Set 0x00000008 1)
    ∷ fresh 1 (ReachOf 32) (H 4)
    -- 2. `40 14 00 02 00 00 00 00 00 02 00 00` from 8: `41 14 16 00`. From 9: accepted, 64 bytes.
    ∷ fresh 2 (Send 8 (hex "40 14 00 02 00 00 00 00 00 02 00 00")) (Bytes (hex "41 14 16 00"))
    ∷ fresh 2
    (Send 9 (hex "40 14 00 02 00 00 00 00 00 02 00 00"))
    (Bytes (hex "41 14 00 0F 00 01 00 00 00 02 00 00 00 00 00 04" ++ zeros 48))
    -- 3. The same with byte 3 as 00h, from 9: `41 14 03 00`.
    ∷ fresh 3 (Send 9 (hex "40 14 00 00 00 00 00 00 00 02 00 00")) (Bytes (hex "41 14 03 00"))
    -- 4. `40 11 00 00`, then eight zeros, from 8: accepted, 28 bytes.
    ∷ fresh 4 (Send 8 (hex "40 11 00 00" ++ zeros 8)) (Bytes (hex "41 11 00 06 00 01" ++ zeros 22))
    -- 5. `40 11 00 02 00 00 00 00 00 04 00 00`: `41 11 10 00`.
    ∷ fresh 5 (Send 1 (hex "40 11 00 02 00 00 00 00 00 04 00 00")) (Bytes (hex "41 11 10 00"))
    -- 6. `40 02 00 00`: `41 02 01 00`. `40 02 00`: H6.
    ∷ fresh 6 (Send 1 (hex "40 02 00 00")) (Bytes (hex "41 02 01 00"))
    ∷ fresh 6 (Send 1 (hex "40 02 00")) (H 6)
    -- 7. `40 93 00 02 00 02 01 00 00 00 00 00` from 8: `41 93 04 00`. With byte 5 as 01h: `41 93 00 00`, and no
    -- broadcast, since nothing watches a peak.
    ∷ fresh 7 (Send 8 (hex "40 93 00 02 00 02 01 00 00 00 00 00")) (Bytes (hex "41 93 04 00"))
    ∷ fresh 7 (Send 8 (hex "40 93 00 02 00 01 01 00 00 00 00 00")) (Bytes (hex "41 93 00 00"))
    ∷ on 7 shelf_w
    (sent 8 (hex "40 93 00 02 00 01 01 00 00 00 00 00") ∷ [])
    (Look broadcast_counts)
    (Numbers (zeros 14))
    -- 8. `40 93 00 02 00 00 01 00 00 02 00 00` from 8: `41 93 20 00`.
    ∷ fresh 8 (Send 8 (hex "40 93 00 02 00 00 01 00 00 02 00 00")) (Bytes (hex "41 93 20 00"))
    -- 9. After one reduced functionality notice, `40 06 04 00`: `41 06 00 03 00 01 04 01 FF 00 03 00 00 01 00 00`.
    ∷ on 9 shelf_w
    (ReducedFunctionality ∷ [])
    (Send 1 (hex "40 06 04 00"))
    (Bytes (hex "41 06 00 03 00 01 04 01 FF 00 03 00 00 01 00 00"))
    -- 10. Change count FFFFh, then a link change: 0001h.
    ∷ on 10 last_count_w (LinkChange 0 ∷ []) (Look (λ s. s.changes ∷ [])) (Numbers (0x0001 ∷ []))
    -- 11. Value FFFFFFFEh on 01h, amount 3: value 00000001h; an error count at FFFFFFFEh: FFFFFFFFh.
    ∷ on 11 near_end_w
    (Event 0 0x01 3 ∷ [])
    (Look (λ s. (monitor_at (phy_at s 0) 0).value ∷ error_at (phy_at s 0) 0 ∷ []))
    (Numbers (0x00000001 ∷ 0xFFFFFFFF ∷ []))
    ∷ []
