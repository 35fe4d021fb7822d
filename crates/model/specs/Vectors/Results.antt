-- Function results, two faults at once among them. The first number is the result's code.
use Rattle.std.specs.Prelude.{List, [], ◌∷◌, ◌++◌}
use Rattle.model.specs.Bytes.{zeros}
use Rattle.model.specs.Cases.{Case, Send, Bytes, fresh}
use Rattle.model.specs.Hex.{hex}
use Rattle.model.specs.Vectors.Tools.{read_phy_frame, read_broadcasts_frame, control_frame, configure_frame, watch}

unfoldable pub results : List Case
results =
    -- 01h at any length
    fresh 0x01 (Send 1 (hex "40 02 00 07 00")) (Bytes (hex "41 02 01 00"))
    -- 03h: true length, byte 3, and for 93h both with d; before a wrong count
    ∷ fresh 0x03 (Send 1 (hex "40 11 00 00")) (Bytes (hex "41 11 03 00"))
    ∷ fresh 0x03 (Send 1 (read_phy_frame 0x11 0x01 0)) (Bytes (hex "41 11 03 00"))
    ∷ fresh 0x03 (Send 1 (control_frame 0x08 0x07 0 0x00)) (Bytes (hex "41 91 03 00"))
    ∷ fresh 0x03 (Send 1 (configure_frame 0x02 0x07 0x00 0 1 (watch 0x01 0))) (Bytes (hex "41 93 03 00"))
    ∷ fresh 0x03 (Send 1 (configure_frame 0x04 0x07 0x00 0 1 (zeros 7))) (Bytes (hex "41 93 03 00"))
    ∷ fresh 0x03 (Send 1 (hex "40 93 00 02" ++ zeros 7)) (Bytes (hex "41 93 03 00"))
    -- 126 descriptors have a right length, which 127 can't have: 2 + 2d is no byte, and 00h is not taken for it
    ∷ fresh 0x03 (Send 1 (configure_frame 0x00 0x00 0x00 0 127 (zeros 1016))) (Bytes (hex "41 93 03 00"))
    ∷ fresh 0x02 (Send 1 (configure_frame 0xFE 0x00 0x00 0 126 (zeros 1008))) (Bytes (hex "41 93 02 00"))
    -- 04h before 10h; 10h of FFh
    ∷ fresh 0x04 (Send 1 (control_frame 0x09 0x02 4 0x00)) (Bytes (hex "41 91 04 00"))
    ∷ fresh 0x04 (Send 1 (configure_frame 0x02 0x02 0x00 4 0 [])) (Bytes (hex "41 93 04 00"))
    ∷ fresh 0x10 (Send 1 (read_phy_frame 0x14 0x02 0xFF)) (Bytes (hex "41 14 10 00"))
    -- 10h before 20h, 20h before 13h and 02h
    ∷ fresh 0x10 (Send 2 (control_frame 0x09 0x01 4 0x07)) (Bytes (hex "41 91 10 00"))
    ∷ fresh 0x20 (Send 8 (control_frame 0x09 0x01 2 0x07)) (Bytes (hex "41 91 20 00"))
    ∷ fresh 0x20 (Send 8 (configure_frame 0x0C 0x01 0x00 2 5 (zeros 40))) (Bytes (hex "41 93 20 00"))
    -- 20h for each operation that is known
    ∷ fresh 0x20 (Send 8 (control_frame 0x09 0x01 2 0x00)) (Bytes (hex "41 91 20 00"))
    ∷ fresh 0x20 (Send 8 (control_frame 0x09 0x01 2 0x01)) (Bytes (hex "41 91 20 00"))
    ∷ fresh 0x20 (Send 8 (control_frame 0x09 0x01 2 0x03)) (Bytes (hex "41 91 20 00"))
    ∷ fresh 0x20 (Send 8 (control_frame 0x09 0x01 2 0x05)) (Bytes (hex "41 91 20 00"))
    -- 16h of an 11h
    ∷ fresh 0x16 (Send 9 (read_phy_frame 0x11 0x00 0)) (Bytes (hex "41 11 16 00"))
    -- 13h; 02h of a type above 0Fh, and of five descriptors before the first of them is judged; 17h
    ∷ fresh 0x13 (Send 8 (control_frame 0x00 0x01 0 0x02)) (Bytes (hex "41 91 13 00"))
    ∷ fresh 0x02 (Send 1 (read_broadcasts_frame 0x10)) (Bytes (hex "41 06 02 00"))
    ∷ fresh 0x02 (Send 8 (configure_frame 0x0C 0x01 0x00 0 5 (watch 0x07 0 ++ zeros 32))) (Bytes (hex "41 93 02 00"))
    ∷ fresh 0x17 (Send 8 (configure_frame 0x04 0x01 0x00 0 1 (watch 0x46 0))) (Bytes (hex "41 93 17 00"))
    ∷ []
