-- What a fresh shelf is, the row test, and which starts are refused. The first number is that of the house refusal, or of the first of
-- several, and 0 where there is none.
use Rattle.std.specs.Prelude.{ℕ, cond, List, [], ◌∷◌, ◌++◌, map, length, set}
use Rattle.model.specs.declared.Shelf.{Shelf}
use Rattle.model.specs.Bytes.{zeros}
use Rattle.model.specs.Cases.{Case, Look, Numbers, fresh}
use Rattle.model.specs.Hex.{hex}
use Rattle.model.specs.House.{taken_number}
use Rattle.model.specs.Shelf.{phy_at, no_shelf, start}
use Rattle.model.specs.ShelfW.{groups_w, table_w, identifier_w}
use Rattle.model.specs.Zone.{row_reaches}
use Rattle.model.specs.Vectors.Tools.{monitors0, counts0, link0}

-- every group of the 24 places
abbrev pub groups_of : Shelf → List ℕ
groups_of s = map (λ x. x.group) s.phys

-- a fresh shelf, and the row test
unfoldable pub fresh_starts : List Case
fresh_starts =
    -- the phy number, the change count 0001h, and 0 under FFh; the identifier
    fresh 0
    (Look (λ s. s.number ∷ s.changes ∷ s.expander3 ∷ s.ses0 ∷ []))
    (Numbers (4 ∷ 0x0001 ∷ 0 ∷ 0 ∷ []))
    ∷ fresh 0 (Look (λ s. s.identifier)) (Numbers (hex "01 02 03 04 05 06 07 08"))
    -- a phy: enabled, no Change; four error counts and four monitors, all 0; no broadcast counts
    ∷ fresh 0 (Look link0) (Numbers (1 ∷ 0 ∷ 0x0001 ∷ []))
    ∷ fresh 0 (Look (λ s. (phy_at s 0).errors)) (Numbers (zeros 4))
    ∷ fresh 0 (Look (λ s. monitors0 s ++ (length (phy_at s 0).monitors ∷ []))) (Numbers (zeros 12 ++ (4 ∷ [])))
    ∷ fresh 0 (Look counts0) (Numbers (0 ∷ 0 ∷ 0 ∷ 0x0001 ∷ []))
    -- each phy has its own group, and a group past the phy number leaves no trace
    ∷ fresh 0
    (Look (λ s. groups_of (start 4 (set groups_w 4 99) table_w identifier_w).shelf))
    (Numbers (8 ∷ 8 ∷ 9 ∷ 1 ∷ zeros 20))
    -- the row test: bits 1 and 8 of row 8, not bit 9; bit 31 of all ones; no group above 31, whatever the row
    ∷ fresh 0
    (Look (λ s. map (λ b. cond b 1 0)
    (row_reaches 0x00000102 1
    ∷ row_reaches 0x00000102 8
    ∷ row_reaches 0x00000102 9
    ∷ row_reaches 0xFFFFFFFF 31
    ∷ row_reaches 0x1FFFFFFFF 32
    ∷ [])))
    (Numbers (1 ∷ 1 ∷ 0 ∷ 1 ∷ 0 ∷ []))
    ∷ []

-- which starts are done, and which are refused
unfoldable pub starts_taken : List Case
starts_taken =
    -- 1 and 24 phys, group 31
    fresh 0
    (Look
    (λ s. taken_number (start 1 groups_w table_w identifier_w).taken
    ∷ taken_number (start 24 groups_w table_w identifier_w).taken
    ∷ taken_number (start 4 (set groups_w 3 31) table_w identifier_w).taken
    ∷ []))
    (Numbers (0 ∷ 0 ∷ 0 ∷ []))
    -- H1, H1, H2, H3 (symmetric, but row 0 has bit 5 too), H3 (symmetric, but row 1 lacks bit 5), H3 (not symmetric), H2 before H3,
    -- H1 before H2, and a group past the phy number is ignored
    ∷ fresh 1
    (Look
    (λ s. taken_number (start 0 groups_w table_w identifier_w).taken
    ∷ taken_number (start 25 groups_w table_w identifier_w).taken
    ∷ taken_number (start 4 (set groups_w 3 32) table_w identifier_w).taken
    ∷ taken_number (start 4 groups_w (set (set table_w 0 0x00000022) 5 0x00000003) identifier_w).taken
    ∷ taken_number (start 4 groups_w (set (set table_w 1 0xFFFFFFDF) 5 0x00000000) identifier_w).taken
    ∷ taken_number (start 4 groups_w (set table_w 8 0x00000302) identifier_w).taken
    ∷ taken_number (start 4 (set groups_w 0 264) (set table_w 0 0x00000003) identifier_w).taken
    ∷ taken_number (start 25 (set groups_w 0 264) table_w identifier_w).taken
    ∷ taken_number (start 4 (set groups_w 4 99) table_w identifier_w).taken
    ∷ []))
    (Numbers (1 ∷ 1 ∷ 2 ∷ 3 ∷ 3 ∷ 3 ∷ 2 ∷ 1 ∷ 0 ∷ []))
    -- a refused start gives no device: no phys, in a record of the right sizes
    ∷ fresh 3
    (Look
    (λ s. no_shelf.number
    ∷ length no_shelf.phys
    ∷ length no_shelf.table
    ∷ length no_shelf.identifier
    ∷ (start 4 groups_w (set table_w 0 0x00000003) identifier_w).shelf.number
    ∷ []))
    (Numbers (0 ∷ 24 ∷ 32 ∷ 8 ∷ 0 ∷ []))
    ∷ []
