-- `peaks::list` meets its contract: one descriptor, at its place. Assumes nothing.
use Rattle.std.proofs.Common.{arith}
use Rattle.replies.proofs.Listing.{lists_one}
use Rattle.peaks.proofs.list.Goals as goal

-- src/lib.rt:76:1
pub returns : goal.returns
returns c = lists_one _ (omega arith) c.copy_from_slice.ensures.after c.entry_descriptor.ensures
