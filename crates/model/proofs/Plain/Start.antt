-- When a start gives a device, and what that device is, in plain logic. Assumes nothing.
use Rattle.std.specs.Prelude.{Ok}
use Prim.Native.Nat.{ℕ, ◌≤◌, ◌<◌}
use mathlib.Core.Path.{◌≡◌}
use mathlib.Core.Logic.Iff
use mathlib.Core.Logic.{◌↔◌}
use mathlib.Core.Bool.{Bool, not}
use mathlib.Core.List.{List, [], ◌∷◌}
use lib.Dec.{T}
use lib.ListN.{length, get_or, get_or-eq_default}
use Rattle.model.specs.House.{taken_number}
use Rattle.model.specs.Shelf.{phy_at, no_phy, fresh_phy, start_group, fresh_phys, fresh_shelf, groups_fit, start_taken}
use Rattle.model.specs.Tests.{within}
use Rattle.model.specs.Zone.{zone_group, legal_table}
use Rattle.model.proofs.Laws.Checks.{done_iff}
use Rattle.model.proofs.Laws.Join.{join_length, join_at}
use Rattle.model.proofs.Laws.Lowest.{first_given, none_given}
use Rattle.model.proofs.Laws.Tests.{unless_iff, within_iff, leb_iff, all_below_iff, check_map}
use Rattle.model.proofs.Plain.Zone.{LegalTable, legal_table_lem}

-- none of H1, H2 and H3 applies
pub record Startable (n : ℕ) (groups table : List ℕ) : Type 0 where
  pub number : (1 ≤ n) × (n ≤ 24)
  pub groups_all_fit : (p : ℕ) → p < n → get_or groups p 0 ≤ 31
  pub legal : LegalTable table

groups_iff : (n : ℕ) (groups : List ℕ)
    → T (groups_fit n groups)
    ↔ ((p : ℕ) → p < n → get_or groups p 0 ≤ 31)
groups_iff n groups =
    Iff.trans (all_below_iff n (λ p. zone_group (get_or groups p 0)))
    (λ f p h. (leb_iff (get_or groups p 0) 31).0 (f p h), λ f p h. (leb_iff (get_or groups p 0) 31).1 (f p h))

-- what a start is told, as the first of these tests that holds
abbrev pub start_tests : ℕ → List ℕ → List ℕ → List (ℕ × Bool)
start_tests n groups table = (1, not (within 1 24 n)) ∷ (2, not (groups_fit n groups)) ∷ (3, not (legal_table table)) ∷ []

pub start_number : (n : ℕ) (groups table : List ℕ)
    → taken_number (start_taken n groups table) ≡ first_given (start_tests n groups table)
unfolding start_taken
start_number n groups table = simp (check_map taken_number)

pub start_done : (n : ℕ) (groups table : List ℕ) → (start_taken n groups table ≡ Ok tt) ↔ Startable n groups table
start_done n groups table =
    let number = unless_iff (within 1 24 n) (within_iff 1 24 n) in
    let fit = unless_iff (groups_fit n groups) (groups_iff n groups) in
    let legal = unless_iff (legal_table table) (legal_table_lem table) in
    Iff.trans (done_iff (start_taken n groups table))
    (rw (start_number n groups table)
    (Iff.trans (none_given (start_tests n groups table) tt) (
      λ h. record { number = number.0 h.0; groups_all_fit = fit.0 h.1.0; legal = legal.0 h.1.1.0 },
      λ r. (number.1 r.number, (fit.1 r.groups_all_fit, (legal.1 r.legal, tt))),
    )))

-- the device: it has 24 places for phys
pub fresh_size : (n : ℕ) (groups : List ℕ) → length (fresh_phys n groups) ≡ 24
fresh_size n groups = join_length 24 (λ p. fresh_phy (start_group n groups p))

-- phy p has the group that was given for it, and is fresh; past the phy number the group is 0
pub fresh_phys_lem : (n : ℕ) (groups table identifier : List ℕ) (p : ℕ) → p < 24
    → phy_at (fresh_shelf n groups table identifier) p ≡ fresh_phy (start_group n groups p)
unfolding fresh_shelf
fresh_phys_lem n groups table identifier p h = join_at 24 (λ q. fresh_phy (start_group n groups q)) no_phy p h

-- and past the 24 places stands a fresh phy of group 0
pub fresh_past : (n : ℕ) (groups table identifier : List ℕ) (p : ℕ) → 24 ≤ p → phy_at (fresh_shelf n groups table identifier) p ≡ no_phy
unfolding fresh_shelf
fresh_past n groups table identifier p above = get_or-eq_default (fresh_phys n groups) no_phy {n = p} (rw (fresh_size n groups) above)
