-- `broadcasts::send` meets its contract: the list, and then its head in front of it. Assumes nothing.
use Rattle.std.proofs.Common.{refl, arith}
use Rattle.model.proofs.Demands.Frames.{broadcasts_few}
use Rattle.words.specs.Words.{shelf_of}
use Rattle.broadcasts.proofs.Listing.{report_sent}
use Rattle.broadcasts.proofs.send.Goals as goal

-- src/lib.rt:115:5
pub broadcast_head-requires : goal.broadcast_head-requires
broadcast_head-requires c =
    omega (arith, c.push_all.ensures.lists.many, broadcasts_few (shelf_of c.args.words.now) c.args.source c.args.kind)

-- src/lib.rt:108:1
pub returns : goal.returns
returns c =
    let a = c.push_all.ensures.same_buffer in
    report_sent (shelf_of c.args.words.now) c.args.source c.args.kind (omega arith) c.push_all.ensures.lists
    c.copy_from_slice.ensures.after (rw c.changes.ensures at c.broadcast_head.ensures) (grind arith) refl
