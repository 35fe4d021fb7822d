-- `broadcasts::List::push_device` meets its contract: of any other type nothing is listed. Assumes nothing.
use Rattle.std.proofs.Common.{arith}
use Rattle.model.specs.Reply.{device_listed}
use Rattle.broadcasts.proofs.Walk.{grows_none}
use Rattle.broadcasts.proofs.List.push_device.Goals as goal

-- src/lib.rt:50:5
pub returns-in_default : goal.returns-in_default
unfolding device_listed
returns-in_default c = grows_none (grind arith)
