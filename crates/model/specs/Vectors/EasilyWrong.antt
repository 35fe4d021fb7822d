-- Document 01's "Easily got wrong", in its order. The first number is that of its line.
use Rattle.std.specs.Prelude.{List, [], ◌∷◌, ◌++◌}
use Rattle.model.specs.Cases.{Case, Send, Look, Bytes, Numbers, fresh, on, sent}
use Rattle.model.specs.Hex.{hex}
use Rattle.model.specs.Reply.{monitor_at}
use Rattle.model.specs.Runs.{Event, LinkChange, ReducedFunctionality, Ses}
use Rattle.model.specs.Shelf.{phy_at}
use Rattle.model.specs.ShelfW.{shelf_w}
use Rattle.model.specs.Vectors.Tools.{read_broadcasts_frame, configure_frame, watch, monitors0, counts0, errors0, counts_w}
use Rattle.model.specs.Vectors.Tools.{full_w, watching}

unfoldable pub easily_wrong1to4 : List Case
easily_wrong1to4 =
    -- 1. wrapping monitors and saturating error counts: 02h counts to FFFFFFFEh, then 2 more
    on 1 shelf_w
    (watching ∷ Event 0 0x02 0xFFFFFFFE ∷ Event 0 0x02 2 ∷ [])
    (Look (λ s. (monitor_at (phy_at s 0) 2).value ∷ errors0 s))
    (Numbers (0x00000000 ∷ 0 ∷ 0xFFFFFFFF ∷ 0 ∷ 0 ∷ []))
    -- 2. each broadcast count goes from FFFFh to 0001h, and 06h goes on listing it
    ∷ on 2 full_w
    (watching
    ∷ Event 0 0x2D 10
    ∷ sent 8 (configure_frame 0x02 0x00 0x01 0 0 [])
    ∷ ReducedFunctionality
    ∷ Ses
    ∷ LinkChange 0
    ∷ [])
    (Look (λ s. counts0 s ++ (s.expander3 ∷ s.ses0 ∷ [])))
    (Numbers (0x0001 ∷ 0x0001 ∷ 0x0001 ∷ 0x0002 ∷ 0x0001 ∷ 0x0001 ∷ []))
    ∷ on 2 full_w
    (ReducedFunctionality ∷ [])
    (Send 9 (read_broadcasts_frame 0x04))
    (Bytes (hex "41 06 00 03 00 01 04 01" ++ hex "FF 00 03 00 00 01 00 00"))
    -- 3. an unsupported event source, 07h, from a stranger and from one who reaches the phy
    ∷ fresh 3 (Send 8 (configure_frame 0x04 0x00 0x00 2 1 (watch 0x07 0))) (Bytes (hex "41 93 20 00"))
    ∷ fresh 3 (Send 9 (configure_frame 0x04 0x00 0x00 2 1 (watch 0x07 0))) (Bytes (hex "41 93 17 00"))
    -- 4. two good descriptors, then a bad one: 17h, and all four monitors as they were
    ∷ fresh 4
    (Send 8 (configure_frame 0x08 0x00 0x01 0 3 (watch 0x2E 1 ++ watch 0x01 1 ++ watch 0x2F 1)))
    (Bytes (hex "41 93 17 00"))
    ∷ on 4 shelf_w
    (watching
    ∷ Event 0 0x2D 7
    ∷ sent 8 (configure_frame 0x08 0x00 0x01 0 3 (watch 0x2E 1 ++ watch 0x01 1 ++ watch 0x2F 1))
    ∷ [])
    (Look monitors0)
    (Numbers (0x2D ∷ 7 ∷ 10 ∷ 0x2D ∷ 7 ∷ 11 ∷ 0x02 ∷ 0 ∷ 5 ∷ 0x00 ∷ 0 ∷ 0 ∷ []))
    ∷ []

unfoldable pub easily_wrong5 : List Case
easily_wrong5 =
    -- 5. 06h lists to 8 the counts of phys 0, 1 and 3, and to 9 those of 2 and 3
    on 5 counts_w []
    (Send 8 (read_broadcasts_frame 0x00))
    (Bytes
    (hex "41 06 00 07 00 01 00 03"
    ++ hex "00 00 00 00 01 00 00 00"
    ++ hex "01 00 00 00 01 01 00 00"
    ++ hex "03 00 00 00 01 03 00 00"))
    ∷ on 5 counts_w []
    (Send 9 (read_broadcasts_frame 0x00))
    (Bytes
    (hex "41 06 00 05 00 01 00 02"
    ++ hex "02 00 00 00 01 02 00 00"
    ++ hex "03 00 00 00 01 03 00 00"))
    ∷ on 5 counts_w []
    (Send 8 (read_broadcasts_frame 0x04))
    (Bytes
    (hex "41 06 00 0F 00 01 04 07"
    ++ hex "FF 00 03 00 04 00 00 00"
    ++ hex "00 00 01 00 02 00 00 00"
    ++ hex "00 00 02 00 03 00 00 00"
    ++ hex "01 00 01 00 02 01 00 00"
    ++ hex "01 00 02 00 03 01 00 00"
    ++ hex "03 00 01 00 02 03 00 00"
    ++ hex "03 00 02 00 03 03 00 00"))
    ∷ on 5 counts_w []
    (Send 9 (read_broadcasts_frame 0x04))
    (Bytes
    (hex "41 06 00 0B 00 01 04 05"
    ++ hex "FF 00 03 00 04 00 00 00"
    ++ hex "02 00 01 00 02 02 00 00"
    ++ hex "02 00 02 00 03 02 00 00"
    ++ hex "03 00 01 00 02 03 00 00"
    ++ hex "03 00 02 00 03 03 00 00"))
    ∷ []
