-- "A source reaches a phy if its row has the bit of the phy's group." "A reach query gives, for a source group,
-- the set of phys it reaches as a 32-bit number and how many they are; a group above 31 draws H4."
use Rattle.std.specs.Prelude.{ℕ, ◌^◌, Bool, cond, ltb, Err}
use Rattle.model.specs.declared.House.TheVariants.{SourceGroup}
use Rattle.model.specs.declared.Shelf.{Shelf}
use Rattle.model.specs.Answers.{Reach, reach_gives}
use Rattle.model.specs.Shelf.{phy_number, phy_at}
use Rattle.model.specs.Tests.{given, sum_below}
use Rattle.model.specs.Zone.{row, row_reaches}

abbrev pub reaches : Shelf → ℕ → ℕ → Bool
reaches s g p = row_reaches (row s.table g) (phy_at s p).group

-- the set as a number: bit p stands for phy p
unfoldable pub reach_set : Shelf → ℕ → ℕ
reach_set s g = sum_below (phy_number s) (λ p. cond (reaches s g p) (2 ^ p) 0)

-- how many they are
unfoldable pub reach_number : Shelf → ℕ → ℕ
reach_number s g = sum_below (phy_number s) (λ p. cond (reaches s g p) 1 0)

unfoldable pub reach_query : Shelf → ℕ → Reach
reach_query s g = given (ltb 31 g) (Err SourceGroup) (reach_gives (reach_set s g) (reach_number s g))
