-- `words::read::phy_at` meets its contract: the phy from its place on, or none. Assumes nothing.
use Rattle.std.proofs.Common.{arith, sym, ◌∙◌}
use Rattle.words.proofs.Reading.{phy_there, phy_past}
use Rattle.words.proofs.read.phy_at.Goals as goal

pub returns-then-p-ge24 : goal.returns-then-p-ge24
returns-then-p-ge24 c = c.fresh_phy.ensures ∙ sym (phy_past c.args.words.now c.args.p (omega arith))

pub returns : goal.returns
returns c = rw (phy_there c.args.words.now c.args.p (omega arith)) c.phy.ensures
