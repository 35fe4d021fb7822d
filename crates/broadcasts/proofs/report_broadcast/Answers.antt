-- `broadcasts::report_broadcast` meets its contract: what is sent into the front is sent. Assumes nothing.
use Rattle.replies.proofs.Front.{sent_in_front}
use Rattle.broadcasts.proofs.Listing.{report_fits}
use Rattle.broadcasts.proofs.report_broadcast.Goals as goal

-- src/lib.rt:109:1
pub returns-in-Some : goal.returns-in-Some
returns-in-Some c = sent_in_front _ (report_fits _ _ _) c.in-Some.ensures.cases c.send.ensures
