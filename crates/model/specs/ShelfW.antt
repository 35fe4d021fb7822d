-- "Four phys, groups 8, 8, 9, 1; row 8 has bits 1 and 8; row 9 bits 1 and 9; other rows from 2 up bit 1 alone.
-- The identifier is the bytes 01h, 02h and so on to 08h."
use Rattle.std.specs.Prelude.{ℕ, List, [], ◌∷◌, ◌++◌, replicate}
use Rattle.model.specs.declared.Shelf.{Shelf}
use Rattle.model.specs.Bytes.{zeros}
use Rattle.model.specs.Shelf.{start}

abbrev pub groups_w : List ℕ
groups_w = 8 ∷ 8 ∷ 9 ∷ 1 ∷ zeros 20

-- rows 0 and 1, 2 to 7, 8 and 9, 10 to 31
abbrev pub table_w : List ℕ
table_w =
    0x00000002
    ∷ 0xFFFFFFFF
    ∷ replicate 6 0x00000002
    ++ (0x00000102 ∷ 0x00000202 ∷ [])
    ++ replicate 22 0x00000002

abbrev pub identifier_w : List ℕ
identifier_w = 0x01 ∷ 0x02 ∷ 0x03 ∷ 0x04 ∷ 0x05 ∷ 0x06 ∷ 0x07 ∷ 0x08 ∷ []

-- freshly started
unfoldable pub shelf_w : Shelf
shelf_w = (start 4 groups_w table_w identifier_w).shelf
