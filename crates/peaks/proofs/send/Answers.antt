-- `peaks::send` meets its contract: the list, and then its head in front of it. Assumes nothing.
use Rattle.std.proofs.Common.{refl, arith}
use Rattle.words.specs.Words.{shelf_of}
use Rattle.peaks.proofs.Listing.{report_sent}
use Rattle.peaks.proofs.Number.{numbered}
use Rattle.peaks.proofs.send.Goals as goal

-- src/lib.rt:143:5
pub list_last-requires : goal.list_last-requires
list_last-requires c =
    (numbered c.args.words.now c.args.start (omega arith) c.number_returned-n.ensures).few

-- src/lib.rt:134:1
pub returns : goal.returns
returns c =
    let s = shelf_of c.args.words.now in
    report_sent s.changes s.store c.args.start (omega arith)
    (numbered c.args.words.now c.args.start (omega (arith, c.ranges.start)) c.number_returned-n.ensures)
    c.list_last.ensures c.event_list_head.ensures c.changes.ensures c.first_index-first.ensures c.last-last.ensures
    (rw c.copy_from_slice.ensures.after refl) refl
