use Rattle.std.proofs.Common.{arith}
use Rattle.model.specs.Reply.{broadcasts}
use Rattle.model.proofs.Demands.Frames.{device_few}
use Rattle.broadcasts.proofs.Walk.{walk_begin, walk_turn, walk_room, walk_end}
use Rattle.broadcasts.proofs.List.push_all.Goals as goal

pub loop-p-init : goal.loop-p-init
loop-p-init c = walk_begin (rw (c.expander3.ensures, c.ses0.ensures) at c.push_device.ensures)

pub push_seen-requires : goal.push_seen-requires
push_seen-requires c = walk_room c.loop-p.invariant (omega arith) (device_few _ _ _) (omega arith)

pub loop-p-preserved : goal.loop-p-preserved
loop-p-preserved c = walk_turn c.loop-p.invariant (omega arith) (rw c.phy_at.ensures at c.push_seen.ensures)

pub returns : goal.returns
unfolding broadcasts
returns c = rw (c.phy_number-number.ensures, c.number.ensures, c.row-row.ensures) at (walk_end c.loop-p.invariant (omega arith))
