-- `broadcasts::List::push_phy` meets its contract: of Expander two counts are listed. Assumes nothing.
use Rattle.model.specs.Reply.{phy_listed}
use Rattle.broadcasts.proofs.Walk.{grows_append}
use Rattle.broadcasts.proofs.List.push_phy.Goals as goal

-- src/lib.rt:62:5
pub returns-in-4 : goal.returns-in-4
unfolding phy_listed
returns-in-4 c = rw c.in-4.is (grows_append c.push-in-4.ensures c.push-in-4-2.ensures)
