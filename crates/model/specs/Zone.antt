-- "Zone groups 0 to 31. The table has thirty-two rows, one for each zone group, each a 32-bit number; bit h of row g says that g reaches h."
use Rattle.std.specs.Prelude.{ℕ, ◌/◌, ◌%◌, ◌^◌, Bool, ◌&&◌, List, leb, eqb, get_or}
use Rattle.std.specs.Bool.{beq}
use Rattle.model.specs.Tests.{all_below}

-- a zone group is one of 0 to 31
abbrev pub zone_group : ℕ → Bool
zone_group g = leb g 31

-- bit h of a number
abbrev pub bit : ℕ → ℕ → Bool
bit n h = eqb (n / 2 ^ h % 2) 1

-- row g of a table; there is none, and so no bit, past the last
abbrev pub row : List ℕ → ℕ → ℕ
row table g = get_or table g 0

-- "whether a given row reaches a given group (no, for a group above 31)"
unfoldable pub row_reaches : ℕ → ℕ → Bool
row_reaches r h = zone_group h && bit r h

-- bit h of row g is bit g of row h: for one g and every h, and for every g
abbrev pub row_symmetric : List ℕ → ℕ → Bool
row_symmetric table g = all_below 32 (λ h. beq (bit (row table g) h) (bit (row table h) g))

unfoldable pub symmetric : List ℕ → Bool
symmetric table = all_below 32 (λ g. row_symmetric table g)

-- "A legal table is symmetric; row 1 is all ones; row 0 has bit 1 alone."
unfoldable pub legal_table : List ℕ → Bool
legal_table table = symmetric table && eqb (row table 1) 0xFFFFFFFF && eqb (row table 0) 0x00000002
