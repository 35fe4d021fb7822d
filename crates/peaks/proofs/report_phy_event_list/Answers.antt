-- `peaks::report_phy_event_list` meets its contract: what is sent into the front is sent. Assumes nothing.
use Rattle.std.proofs.Common.{arith}
use Rattle.model.proofs.Demands.Frames.{event_list_longest}
use Rattle.words.specs.Words.{shelf_of}
use Rattle.replies.proofs.Front.{sent_in_front}
use Rattle.peaks.proofs.report_phy_event_list.Goals as goal

-- src/lib.rt:134:1
pub returns-in-Some : goal.returns-in-Some
returns-in-Some c =
    let s = shelf_of c.args.words.now in
    sent_in_front _ (omega (arith, event_list_longest s.changes s.store c.args.start)) c.in-Some.ensures.cases c.send.ensures
