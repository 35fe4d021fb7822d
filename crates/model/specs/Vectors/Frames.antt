-- The response of each function in full, and what the writes do. The first number is the function.
use Rattle.std.specs.Prelude.{List, [], ◌∷◌, ◌++◌, replicate}
use Rattle.model.specs.Bytes.{zeros}
use Rattle.model.specs.Cases.{Case, Send, Look, Bytes, Numbers, fresh, on, sent}
use Rattle.model.specs.Hex.{hex}
use Rattle.model.specs.Runs.{Event, LinkChange}
use Rattle.model.specs.ShelfW.{shelf_w}
use Rattle.model.specs.Vectors.Tools.{read_phy_frame, read_broadcasts_frame, control_frame, configure_frame, watch, monitors0, counts0}
use Rattle.model.specs.Vectors.Tools.{link0, errors0, counts_w, busy_w, watching}

-- the reads
unfoldable pub reads : List Case
reads =
    fresh 0x00
    (Send 0 (hex "40 00 00 00"))
    (Bytes
    (hex "41 00 00 08 00 01 00 00 00 04 00 00"
    ++ hex "01 02 03 04 05 06 07 08"
    ++ zeros 16))
    ∷ on 0x01 shelf_w
    (LinkChange 0 ∷ [])
    (Send 0 (hex "40 01 00 00"))
    (Bytes
    (hex "41 01 00 0E 00 02 00 00 00 00 00 00"
    ++ hex "52 41 49 4C 59 41 52 44"
    ++ hex "50 4F 52 54 41 4C 20 53 48 45 4C 46 20 20 20 20"
    ++ hex "30 30 30 31"
    ++ zeros 20))
    -- 06h: SES under FFh; types that list nothing
    ∷ on 0x06 counts_w []
    (Send 0 (read_broadcasts_frame 0x03))
    (Bytes (hex "41 06 00 03 00 01 03 01" ++ hex "FF 00 00 00 05 00 00 00"))
    ∷ on 0x06 counts_w []
    (Send 1 (read_broadcasts_frame 0x0F))
    (Bytes (hex "41 06 00 01 00 01 0F 00"))
    -- 11h: the four error counts, big-endian
    ∷ on 0x11 shelf_w
    (Event 3 0x01 0x01020304 ∷ Event 3 0x02 0x05 ∷ Event 3 0x03 0x06 ∷ Event 3 0x04 0x07 ∷ [])
    (Send 9 (read_phy_frame 0x11 0x02 3))
    (Bytes
    (hex "41 11 00 06 00 01 00 00 00 03 00 00"
    ++ hex "01 02 03 04 00 00 00 05 00 00 00 06 00 00 00 07"))
    -- 14h: the four monitors, each in its place
    ∷ on 0x14 busy_w
    (Event 0 0x2D 0x01020304 ∷ [])
    (Send 8 (read_phy_frame 0x14 0x02 0))
    (Bytes
    (hex "41 14 00 0F 00 07 00 00 00 00 00 00 00 00 00 04"
    ++ hex "00 00 00 2D 01 02 03 04 00 00 00 0A"
    ++ hex "00 00 00 2C 00 00 00 08 00 00 00 14"
    ++ hex "00 00 00 02 00 00 00 07 00 00 00 05"
    ++ hex "00 00 00 40 00 00 00 06 00 00 00 01"))
    -- 14h: of the phy that is asked for
    ∷ on 0x14 busy_w
    (sent 9 (configure_frame 0x04 0x07 0x00 2 1 (watch 0x2E 0x11)) ∷ [])
    (Send 9 (read_phy_frame 0x14 0x02 2))
    (Bytes
    (hex "41 14 00 0F 00 07 00 00 00 02 00 00 00 00 00 04" ++ hex "00 00 00 2E 00 00 00 00 00 00 00 11" ++ zeros 36))
    ∷ []

-- what a 91h does
unfoldable pub controls : List Case
controls =
    -- accepted; disable, disable again, link reset, link reset again; length 00h serves too
    fresh 0x91 (Send 8 (control_frame 0x09 0x01 0 0x00)) (Bytes (hex "41 91 00 00"))
    ∷ on 0x91 shelf_w (sent 8 (control_frame 0x09 0x01 0 0x03) ∷ []) (Look link0) (Numbers (0 ∷ 1 ∷ 0x0002 ∷ []))
    ∷ on 0x91 shelf_w
    (sent 8 (control_frame 0x09 0x01 0 0x03) ∷ sent 8 (control_frame 0x00 0x02 0 0x03) ∷ [])
    (Look link0)
    (Numbers (0 ∷ 1 ∷ 0x0002 ∷ []))
    ∷ on 0x91 shelf_w
    (sent 8 (control_frame 0x09 0x00 0 0x03) ∷ sent 8 (control_frame 0x00 0x00 0 0x01) ∷ sent 1 (control_frame 0x00 0x03 0 0x01) ∷ [])
    (Look link0)
    (Numbers (1 ∷ 3 ∷ 0x0004 ∷ []))
    -- whether Change is originated goes by the phy that is named
    ∷ on 0x91 shelf_w
    (sent 1 (control_frame 0x09 0x00 0 0x03) ∷ sent 1 (control_frame 0x09 0x00 2 0x03) ∷ [])
    (Look (λ s. s.changes ∷ []))
    (Numbers (0x0003 ∷ []))
    -- 00h does nothing, 05h sets the error counts to 0 and nothing else
    ∷ on 0x91 shelf_w
    (watching ∷ Event 0 0x02 3 ∷ sent 8 (control_frame 0x09 0x01 0 0x00) ∷ [])
    (Look (λ s. errors0 s ++ link0 s))
    (Numbers (0 ∷ 3 ∷ 0 ∷ 0 ∷ 1 ∷ 0 ∷ 0x0001 ∷ []))
    ∷ on 0x91 shelf_w
    (watching ∷ Event 0 0x02 3 ∷ Event 0 0x04 4 ∷ sent 8 (control_frame 0x09 0x01 0 0x05) ∷ [])
    (Look (λ s. errors0 s ++ link0 s ++ monitors0 s))
    (Numbers (0 ∷ 0 ∷ 0 ∷ 0 ∷ 1 ∷ 0 ∷ 0x0001 ∷ 0x2D ∷ 0 ∷ 10 ∷ 0x2D ∷ 0 ∷ 11 ∷ 0x02 ∷ 3 ∷ 5 ∷ 0x00 ∷ 0 ∷ 0 ∷ []))
    ∷ []

-- what a 93h does
unfoldable pub configures : List Case
configures =
    -- the same source keeps the value, a changed source sets it to 0, what has no descriptor stays; bit 0 alone clears
    on 0x93 shelf_w
    (watching
    ∷ Event 0 0x2D 9
    ∷ Event 0 0x02 3
    ∷ sent 8 (configure_frame 0x06 0x00 0xFE 0 2 (watch 0x2D 20 ++ watch 0x2E 2))
    ∷ [])
    (Look (λ s. monitors0 s ++ counts0 s))
    (Numbers (0x2D ∷ 9 ∷ 20 ∷ 0x2E ∷ 0 ∷ 2 ∷ 0x02 ∷ 3 ∷ 5 ∷ 0x00 ∷ 0 ∷ 0 ∷ 0 ∷ 0 ∷ 0 ∷ 0x0001 ∷ []))
    -- the clear comes after the setting, spares counting monitors, and originates Expander 2h once
    ∷ on 0x93 shelf_w
    (watching
    ∷ Event 0 0x2D 9
    ∷ Event 0 0x02 3
    ∷ sent 8 (configure_frame 0x04 0x00 0x01 0 1 (watch 0x02 20))
    ∷ [])
    (Look (λ s. monitors0 s ++ counts0 s))
    (Numbers (0x02 ∷ 0 ∷ 20 ∷ 0x2D ∷ 0 ∷ 11 ∷ 0x02 ∷ 3 ∷ 5 ∷ 0x00 ∷ 0 ∷ 0 ∷ 0 ∷ 0 ∷ 1 ∷ 0x0001 ∷ []))
    -- the clear looks at the sources that stand after the setting: a peak that this request sets, one that it replaces
    ∷ on 0x93 shelf_w
    (sent 8 (configure_frame 0x04 0x00 0x01 0 1 (watch 0x2D 10)) ∷ [])
    (Look counts0)
    (Numbers (0 ∷ 0 ∷ 1 ∷ 0x0001 ∷ []))
    ∷ on 0x93 shelf_w
    (sent 8 (configure_frame 0x04 0x00 0x00 0 1 (watch 0x2D 10)) ∷ sent 8 (configure_frame 0x04 0x00 0x01 0 1 (watch 0x02 10)) ∷ [])
    (Look counts0)
    (Numbers (0 ∷ 0 ∷ 0 ∷ 0x0001 ∷ []))
    -- a clear where no monitor is on a peak source moves no count
    ∷ on 0x93 counts_w
    (sent 8 (configure_frame 0x02 0x00 0x01 0 0 []) ∷ [])
    (Look counts0)
    (Numbers (0x0100 ∷ 0x0200 ∷ 0x0300 ∷ 0x0001 ∷ []))
    ∷ []

-- request bytes not named are ignored: EEh stands in each of them
unfoldable pub ignored : List Case
ignored =
    fresh 0x00
    (Send 0 (hex "40 00 EE 00"))
    (Bytes (hex "41 00 00 08 00 01 00 00 00 04 00 00 01 02 03 04 05 06 07 08" ++ zeros 16))
    ∷ fresh 0x11
    (Send 9 (hex "40 11 EE 02 EE EE EE EE EE 03 EE EE"))
    (Bytes (hex "41 11 00 06 00 01 00 00 00 03 00 00" ++ zeros 16))
    ∷ on 0x91 shelf_w
    (sent 8 (hex "40 91 EE 09 00 01 EE EE EE 00 03" ++ replicate 29 0xEE) ∷ [])
    (Look link0)
    (Numbers (0 ∷ 1 ∷ 0x0002 ∷ []))
    ∷ on 0x93 shelf_w
    (sent 8 (hex "40 93 EE 04 00 01 00 EE EE 00 EE 01 EE EE EE 2D 01 02 03 04") ∷ [])
    (Look monitors0)
    (Numbers (0x2D ∷ 0 ∷ 0x01020304 ∷ zeros 9))
    ∷ []
