-- When a row reaches a group and when a table is legal, in plain logic. Assumes nothing.
use Prim.Native.Nat.{ℕ, ◌/◌, ◌%◌, ◌^◌, ◌≤◌, ◌<◌}
use mathlib.Core.Path.{◌≡◌}
use mathlib.Core.Logic.Iff
use mathlib.Core.Logic.{◌↔◌}
use mathlib.Core.Bool.{beq}
use mathlib.Core.List.{List}
use lib.Dec.{T, eqb}
use Rattle.model.specs.Tests.{all_below}
use Rattle.model.specs.Zone.{zone_group, bit, row, row_reaches, symmetric, legal_table}
use Rattle.model.proofs.Laws.Tests.{both_iff, all_three_iff, same_iff, leb_iff, eqb_iff, all_below_iff}

-- bit h of n, as the digit that it is
pub bit_iff : (n h : ℕ) → T (bit n h) ↔ (n / 2 ^ h % 2 ≡ 1)
bit_iff n h = eqb_iff (n / 2 ^ h % 2) 1

-- a row reaches a group of at most 31 whose bit it has, and no other
pub row_reaches_lem : (r h : ℕ) → T (row_reaches r h) ↔ ((h ≤ 31) × (r / 2 ^ h % 2 ≡ 1))
unfolding row_reaches
row_reaches_lem r h = both_iff (zone_group h) (bit r h) (leb_iff h 31) (bit_iff r h)

-- "A legal table is symmetric; row 1 is all ones; row 0 has bit 1 alone."
pub record LegalTable (table : List ℕ) : Type 0 where
  pub both_ways : (g h : ℕ) → g < 32 → h < 32 → bit (row table g) h ≡ bit (row table h) g
  pub row_1 : row table 1 ≡ 0xFFFFFFFF
  pub row_0 : row table 0 ≡ 0x00000002

symmetric_iff : (table : List ℕ)
    → T (symmetric table)
    ↔ ((g h : ℕ) → g < 32 → h < 32 → bit (row table g) h ≡ bit (row table h) g)
unfolding symmetric
symmetric_iff table = (
  λ t g h gb hb. (same_iff (bit (row table g) h) (bit (row table h) g)).0 ((all_below_iff 32 _).0 ((all_below_iff 32 _).0 t g gb) h hb),
  λ f. (all_below_iff 32 _).1 (λ g gb. (all_below_iff 32 _).1 (λ h hb. (same_iff _ _).1 (f g h gb hb))),
)

pub legal_table_lem : (table : List ℕ) → T (legal_table table) ↔ LegalTable table
unfolding legal_table
legal_table_lem table =
    Iff.trans
    (all_three_iff (symmetric table) (eqb (row table 1) 0xFFFFFFFF) (eqb (row table 0) 0x00000002)
    (symmetric_iff table)
    (eqb_iff (row table 1) 0xFFFFFFFF)
    (eqb_iff (row table 0) 0x00000002))
    (λ p. record { both_ways = p.0; row_1 = p.1; row_0 = p.2 }, λ l. (l.both_ways, l.row_1, l.row_0))

-- FFFFFFFFh is all ones: it has the bit of every zone group
pub all_ones : (h : ℕ) → h < 32 → T (bit 0xFFFFFFFF h)
unfolding all_below
all_ones h below = (all_below_iff 32 (bit 0xFFFFFFFF)).0 tt h below

-- 00000002h has bit 1 alone
pub bit_1_alone : (h : ℕ) → h < 32 → T (bit 0x00000002 h) ↔ (h ≡ 1)
unfolding all_below
bit_1_alone h below =
    let same : bit 0x00000002 h ≡ eqb h 1 =
    (same_iff _ _).0 ((all_below_iff 32 (λ k. beq (bit 0x00000002 k) (eqb k 1))).0 tt h below) in
    rw same (eqb_iff h 1)
