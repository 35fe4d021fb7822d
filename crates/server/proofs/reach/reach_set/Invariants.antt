-- `server::reach::reach_set` meets its contract. The loop's invariant: the set has the bits of the phys passed that the
-- source reaches. Assumes nothing.
use Rattle.std.proofs.Common.{◌≡◌, ℕ, Bool, List}
use Rattle.model.specs.Shelf.{phy_at}
use Rattle.model.specs.Zone.{row_reaches}
use Rattle.model.proofs.Laws.Bits.{powers}
use Rattle.words.specs.Words.{shelf_of}
use Rattle.server.proofs.reach.reach_set.Given as goal

-- phy p is one that the row reaches
abbrev pub reached : ℕ → List ℕ → ℕ → Bool
reached row ws p = row_reaches row (phy_at (shelf_of ws) p).group

abbrev pub invariant-loop-p : goal.invariant-loop-p
invariant-loop-p l = l.set ≡ powers l.p (reached l.row l.words)
