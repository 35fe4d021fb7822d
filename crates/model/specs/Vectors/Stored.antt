-- The list of stored peak events (#101) on shelf W: what is stored, in which order and under which index, and what a 21h is given. All
-- bear its function, 21h.
use Rattle.std.specs.Prelude.{ℕ, List, [], ◌∷◌, ◌++◌, length, replicate}
use Rattle.model.specs.declared.Monitor.{Monitor}
use Rattle.model.specs.declared.Shelf.{Shelf}
use Rattle.model.specs.Cases.{Case, Send, ReachOf, Look, Bytes, Set, Numbers, on, fresh, sent}
use Rattle.model.specs.Hex.{hex}
use Rattle.model.specs.Runs.{Operation, Event, LinkChange}
use Rattle.model.specs.Shelf.{monitor, phy_at, put, put_store, fresh_monitor, entry_of, start}
use Rattle.model.specs.ShelfW.{table_w, identifier_w, shelf_w}
use Rattle.model.specs.Store.{first_returned, returned}
use Rattle.model.specs.Vectors.Tools.{configure_frame, control_frame, watch}
use Rattle.model.specs.Writes.{with_monitors}

-- a clear of phy 0's peaks, by group 8, with no descriptor
abbrev pub clear0 : Operation
clear0 = sent 8 (configure_frame 0x02 0x01 0x01 0 0 [])

-- shelf W where phy 0 has these monitors
abbrev pub monitors_w : List Monitor → Shelf
monitors_w monitors = put shelf_w 0 (with_monitors (phy_at shelf_w 0) monitors 0) shelf_w.changes

-- it watches 2Dh with threshold 10, and nothing else
abbrev pub watch_w : Shelf
watch_w = monitors_w (monitor 0x2D 0 10 ∷ replicate 3 fresh_monitor)

-- it watches 2Dh with threshold 10, 2Dh with threshold 11, 02h with threshold 5, and nothing, and both peaks have this value
abbrev pub peaks_w : ℕ → Shelf
peaks_w value = monitors_w (monitor 0x2D value 10 ∷ monitor 0x2D value 11 ∷ monitor 0x02 3 5 ∷ fresh_monitor ∷ [])

-- the first index that a start is given, how many descriptors, and the last index stored
abbrev pub listed : ℕ → Shelf → List ℕ
listed start s = first_returned s.store start ∷ length (returned s.store start) ∷ s.store.last ∷ []

-- the shelf that watches, where these entries, all of phy 3, are stored
abbrev pub stored_w : ℕ → ℕ → Shelf
stored_w last count = put_store watch_w (record { last = last; count = count; entries = replicate 32 (entry_of 3 (monitor 0x2E 7 5)) })

-- 31 of them, up to index 001Fh; and 32, of which the last has index FFFFh, and the next store writes place 8
abbrev pub store31_w : Shelf
store31_w = stored_w 0x001F 31

abbrev pub full_store_w : Shelf
full_store_w = stored_w 0xFFFF 40

-- shelf W with all its phys in group 1, which every group reaches
abbrev pub all_reached_w : Shelf
all_reached_w = (start 4 (replicate 24 1) table_w identifier_w).shelf

unfoldable pub stored : List Case
stored =
    -- "A start of 0000h, or an empty store, returns index 0000h and none."
    fresh 0x21 (Send 1 (hex "40 21 00 01 00 00 00 01")) (Bytes (hex "41 21 00 02 00 01 00 00 00 00 03 00"))
    ∷ on 0x21 watch_w
    (Event 0 0x2D 10 ∷ [])
    (Send 1 (hex "40 21 00 01 00 00 00 00"))
    (Bytes (hex "41 21 00 02 00 01 00 00 00 01 03 00"))
    -- "Each origination of Expander 1h stores the monitor that crossed .. with its new value": of 9, 10 and 12 the second alone
    ∷ on 0x21 watch_w
    (Event 0 0x2D 9 ∷ Event 0 0x2D 10 ∷ Event 0 0x2D 12 ∷ [])
    (Send 1 (hex "40 21 00 01 00 00 00 01"))
    (Bytes (hex "41 21 00 05 00 01 00 01 00 01 03 01 00 00 00 2D 00 00 00 0A 00 00 00 0A"))
    -- a start that is not stored returns the same: "where there is none, from the lowest stored index"
    ∷ on 0x21 watch_w
    (Event 0 0x2D 10 ∷ [])
    (Send 1 (hex "40 21 00 01 00 00 00 07"))
    (Bytes (hex "41 21 00 05 00 01 00 01 00 01 03 01 00 00 00 2D 00 00 00 0A 00 00 00 0A"))
    -- "in monitor order if several do", both with the new value; and from the second on
    ∷ on 0x21 (peaks_w 0)
    (Event 0 0x2D 12 ∷ [])
    (Send 1 (hex "40 21 00 01 00 00 00 01"))
    (Bytes
    (hex "41 21 00 08 00 01 00 01 00 02 03 02"
    ++ hex "00 00 00 2D 00 00 00 0C 00 00 00 0A"
    ++ hex "00 00 00 2D 00 00 00 0C 00 00 00 0B"))
    ∷ on 0x21 (peaks_w 0)
    (Event 0 0x2D 12 ∷ [])
    (Send 1 (hex "40 21 00 01 00 00 00 02"))
    (Bytes (hex "41 21 00 05 00 01 00 02 00 02 03 01 00 00 00 2D 00 00 00 0C 00 00 00 0B"))
    -- "each Expander 2h stores every peak monitor of the phy with its value before the clear, in monitor order": neither the monitor on
    -- 02h nor the one on 00h
    ∷ on 0x21 (peaks_w 12)
    (clear0 ∷ [])
    (Send 1 (hex "40 21 00 01 00 00 00 01"))
    (Bytes
    (hex "41 21 00 08 00 01 00 01 00 02 03 02"
    ++ hex "00 00 00 2D 00 00 00 0C 00 00 00 0A"
    ++ hex "00 00 00 2D 00 00 00 0C 00 00 00 0B"))
    -- .. and after the setting: the first monitor is moved to 2Ch, so it is stored with that and value 0
    ∷ on 0x21 (peaks_w 12)
    (sent 8 (configure_frame 0x04 0x01 0x01 0 1 (watch 0x2C 7)) ∷ [])
    (Send 1 (hex "40 21 00 01 00 00 00 01"))
    (Bytes
    (hex "41 21 00 08 00 01 00 01 00 02 03 02"
    ++ hex "00 00 00 2C 00 00 00 00 00 00 00 07"
    ++ hex "00 00 00 2D 00 00 00 0C 00 00 00 0B"))
    -- what is stored does not follow later changes; the change count does
    ∷ on 0x21 watch_w
    (Event 0 0x2D 10 ∷ sent 8 (configure_frame 0x04 0x01 0x00 0 1 (watch 0x2C 7)) ∷ LinkChange 0 ∷ [])
    (Send 1 (hex "40 21 00 01 00 00 00 01"))
    (Bytes (hex "41 21 00 05 00 02 00 01 00 01 03 01 00 00 00 2D 00 00 00 0A 00 00 00 0A"))
    -- nothing is stored where nothing is originated: a report below the threshold, a clear where nothing is a peak, a 91h, a 93h that fails
    ∷ on 0x21 watch_w
    (Event 0 0x2D 9
    ∷ sent 8 (configure_frame 0x02 0x01 0x01 1 0 [])
    ∷ sent 8 (control_frame 0x09 0x01 0 0x05)
    ∷ sent 9 (configure_frame 0x02 0x01 0x01 0 0 [])
    ∷ [])
    (Look (listed 0x0001))
    (Numbers (0x0000 ∷ 0 ∷ 0x0000 ∷ []))
    -- "The server keeps the last 32": with one more there are 32, and with two the first is gone
    ∷ on 0x21 store31_w (Event 0 0x2D 10 ∷ []) (Look (listed 0x0001)) (Numbers (0x0001 ∷ 32 ∷ 0x0020 ∷ []))
    ∷ on 0x21 store31_w (Event 0 0x2D 10 ∷ clear0 ∷ []) (Look (listed 0x0001)) (Numbers (0x0002 ∷ 32 ∷ 0x0021 ∷ []))
    ∷ on 0x21 store31_w (Event 0 0x2D 10 ∷ clear0 ∷ []) (Look (listed 0x0020)) (Numbers (0x0020 ∷ 2 ∷ 0x0021 ∷ []))
    -- "Indexes run from 0001h and go from FFFFh to 0001h": one more behind FFFFh, which is of phy 0
    ∷ on 0x21 full_store_w
    (Event 0 0x2D 10 ∷ [])
    (Send 1 (hex "40 21 00 01 00 00 FF FF"))
    (Bytes
    (hex "41 21 00 08 00 01 FF FF 00 01 03 02"
    ++ hex "00 00 03 2E 00 00 00 07 00 00 00 05"
    ++ hex "00 00 00 2D 00 00 00 0A 00 00 00 0A"))
    -- there a start that is not stored: 0002h and 8000h are under FFE1h, the oldest, and FFE0h has gone
    ∷ on 0x21 full_store_w (Event 0 0x2D 10 ∷ []) (Look (listed 0x0002)) (Numbers (0xFFE1 ∷ 32 ∷ 0x0001 ∷ []))
    ∷ on 0x21 full_store_w (Event 0 0x2D 10 ∷ []) (Look (listed 0x8000)) (Numbers (0xFFE1 ∷ 32 ∷ 0x0001 ∷ []))
    ∷ on 0x21 full_store_w (Event 0 0x2D 10 ∷ []) (Look (listed 0xFFE0)) (Numbers (0xFFE1 ∷ 32 ∷ 0x0001 ∷ []))
    ∷ on 0x21 full_store_w (Event 0 0x2D 10 ∷ []) (Look (listed 0xFFE1)) (Numbers (0xFFE1 ∷ 32 ∷ 0x0001 ∷ []))
    -- "only source group 1 may ask": others get 21h, also where they reach every phy
    ∷ fresh 0x21 (Send 8 (hex "40 21 00 01 00 00 00 01")) (Bytes (hex "41 21 21 00"))
    ∷ fresh 0x21 (Send 9 (hex "40 21 00 01 00 00 00 01")) (Bytes (hex "41 21 21 00"))
    ∷ fresh 0x21 (Send 0 (hex "40 21 00 01 00 00 00 00")) (Bytes (hex "41 21 21 00"))
    ∷ fresh 0x21 (Send 31 (hex "40 21 00 01 00 00 00 01")) (Bytes (hex "41 21 21 00"))
    ∷ on 0x21 all_reached_w [] (ReachOf 8) (Set 0x0000000F 4)
    ∷ on 0x21 all_reached_w [] (Send 8 (hex "40 21 00 01 00 00 00 01")) (Bytes (hex "41 21 21 00"))
    -- ".. directly after 03h": "with 03h for any other length", of byte 3 or of the frame
    ∷ fresh 0x21 (Send 8 (hex "40 21 00 00 00 00 00 01")) (Bytes (hex "41 21 03 00"))
    ∷ fresh 0x21 (Send 1 (hex "40 21 00 02 00 00 00 01")) (Bytes (hex "41 21 03 00"))
    ∷ fresh 0x21 (Send 1 (hex "40 21 00 01 00 00 00 01 00 00 00 00")) (Bytes (hex "41 21 03 00"))
    ∷ fresh 0x21 (Send 1 (hex "40 21 00 01")) (Bytes (hex "41 21 03 00"))
    ∷ []
