-- Which phys exist and which a source reaches, and what a reach query's two numbers are, in plain logic. Assumes nothing.
use Rattle.std.specs.Prelude.{Err}
use Prim.Native.Nat.{ℕ, ◌/◌, ◌%◌, ◌^◌, ◌≤◌, ◌<◌}
use native.Mathlib.Nat.{zero-div}
use native.Mathlib.Omega.{arith}
use mathlib.Core.Path.{◌≡◌, sym}
use mathlib.Core.Logic.Iff
use mathlib.Core.Logic.{◌↔◌}
use mathlib.Core.List.{List, Memᴰ}
use borrow.Author.Tests.{lt-ltb, le-ltb}
use lib.Count.{ones}
use lib.Dec.{T}
use lib.ListN.{length, get_or-eq_default}
use Rattle.model.specs.declared.House.TheVariants.{SourceGroup}
use Rattle.model.specs.declared.Shelf.{Shelf}
use Rattle.model.specs.Answers.{reach_gives}
use Rattle.model.specs.Reach.{reaches, reach_set, reach_number, reach_query}
use Rattle.model.specs.Shelf.{phy_number, exists, phy_at}
use Rattle.model.specs.Zone.{bit, row}
use Rattle.model.proofs.Laws.Bits.{powers_fit, ones_powers, bit_powers_iff}
use Rattle.model.proofs.Laws.Picked.{picked, picked_iff, picked_rising, picked_length}
use Rattle.model.proofs.Laws.Rising.{Rising}
use Rattle.model.proofs.Laws.Tests.{ltb_iff}
use Rattle.model.proofs.Plain.Zone.{row_reaches_lem}

-- a phy exists if it is below the phy number; no record has room for more than 24
pub exists_iff : (s : Shelf) (p : ℕ) → T (exists s p) ↔ ((p < s.number) × (p < 24))
exists_iff s p = Iff.trans (ltb_iff p (phy_number s)) (λ h. (omega arith, omega arith), λ h. omega arith)

-- "A source reaches a phy if its row has the bit of the phy's group."
pub reaches_iff : (s : Shelf) (g p : ℕ)
    → T (reaches s g p)
    ↔ (((phy_at s p).group ≤ 31) × (row s.table g / 2 ^ (phy_at s p).group % 2 ≡ 1))
reaches_iff s g p = row_reaches_lem (row s.table g) (phy_at s p).group

-- a source past the table's last row reaches nothing
pub reaches_nothing : (s : Shelf) (g p : ℕ) → length s.table ≤ g → T (reaches s g p) → ⊥
reaches_nothing s g p h t =
    let empty : row s.table g ≡ 0 = get_or-eq_default s.table 0 h in
    let digit : row s.table g / 2 ^ (phy_at s p).group % 2 ≡ 1 = ((reaches_iff s g p).0 t).1 in
    let none : row s.table g / 2 ^ (phy_at s p).group % 2 ≡ 0 = rw (empty, zero-div) in
    omega arith

-- the set has bit p exactly if phy p exists and is reached, and fits in 24 bits
pub reach_set_lem : (s : Shelf) (g p : ℕ) → T (bit (reach_set s g) p) ↔ (T (exists s p) × T (reaches s g p))
unfolding reach_set
reach_set_lem s g p = bit_powers_iff (phy_number s) (reaches s g) p

pub reach_set_fits : (s : Shelf) (g : ℕ) → reach_set s g < 2 ^ 24
unfolding reach_set
reach_set_fits s g = powers_fit 24 (phy_number s) (reaches s g) (omega arith)

-- the phys that a source reaches, written out: these and no others, rising
abbrev pub reached_phys : Shelf → ℕ → List ℕ
reached_phys s g = picked (phy_number s) (reaches s g)

pub reached_phys_lem : (s : Shelf) (g p : ℕ)
    → Memᴰ p (reached_phys s g)
    ↔ ((p < phy_number s) × T (reaches s g p))
reached_phys_lem s g p = picked_iff (phy_number s) (reaches s g) p

pub reached_rising : (s : Shelf) (g : ℕ) → Rising (λ p. p) (reached_phys s g)
reached_rising s g = picked_rising (phy_number s) (reaches s g)

-- the number is how many they are, and so the count of ones of the set
pub reach_number_lem : (s : Shelf) (g : ℕ) → reach_number s g ≡ length (reached_phys s g)
unfolding reach_number
reach_number_lem s g = sym (picked_length (phy_number s) (reaches s g))

pub reach_ones : (s : Shelf) (g : ℕ) → reach_number s g ≡ ones (reach_set s g)
unfolding reach_set reach_number
reach_ones s g = sym (ones_powers (phy_number s) (reaches s g))

-- a zone group is answered with both, and a group above 31 draws H4
pub reach_answered : (s : Shelf) (g : ℕ) → g ≤ 31 → reach_query s g ≡ reach_gives (reach_set s g) (reach_number s g)
unfolding reach_query
reach_answered s g h = rw (le-ltb 31 g h)

pub reach_refused : (s : Shelf) (g : ℕ) → 31 < g → reach_query s g ≡ Err SourceGroup
unfolding reach_query
reach_refused s g h = rw (lt-ltb 31 g h)
