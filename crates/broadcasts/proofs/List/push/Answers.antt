-- `broadcasts::List::push` meets its contract: any count but 0 is one descriptor more. Assumes nothing.
use borrow.Author.Tests.{ne_eqb}
use Rattle.std.proofs.Common.{refl, arith}
use Rattle.replies.proofs.Listing.{lists_one}
use Rattle.broadcasts.proofs.List.push.Goals as goal

-- src/lib.rt:36:5
pub returns : goal.returns
returns c =
    rw (ne_eqb c.args.count 0 (omega arith))
    (record { same_buffer = refl; lists = lists_one _ (omega arith) c.copy_from_slice.ensures.after c.broadcast_descriptor.ensures })
