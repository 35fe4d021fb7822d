-- What it is for a list of cases to hold: what came of each is what was due. By computation each is `refl`, and the end of the list `tt`.
use Prim.Native.Nat.{ℕ}
use mathlib.Core.Path.{◌≡◌}
use mathlib.Core.Bool.{Bool}
use mathlib.Core.List.{List}
use Rattle.model.specs.Cases.{Case, came}
use Rattle.model.specs.CrossedOut.{crossed_out}
use Rattle.model.specs.Runs.{Operation}
use Rattle.model.specs.ShelfW.{shelf_w}
use Rattle.model.proofs.Laws.Places.{All}

abbrev pub Holds : List Case → Type 0
Holds = All (λ c. came c ≡ c.due)

-- What it is for a list of operations to be crossed out of a run on shelf W for the group that stands beside each, or to stay.
abbrev pub Fate : Bool → List (ℕ × Operation) → Type 0
Fate due = All (λ entry. crossed_out entry.0 shelf_w entry.1 ≡ due)
