-- `server::event`: a report that is done names a phy that exists, so its number fits a byte. Assumes nothing.
use Rattle.std.proofs.Common.{◌<◌, ◌∙◌, sym, arith}
use Rattle.model.proofs.Plain.Reach.{exists_iff}
use Rattle.model.proofs.Plain.Reports.{event_done}
use Rattle.words.specs.Words.{shelf_of}
use Rattle.server.proofs.event.Goals as goal

pub overflow_cast-phy : goal.overflow_cast-phy
overflow_cast-phy c =
    let a = c.args in
    let s = shelf_of a.words.now in
    let taken = sym (rw c.there.ensures at c.event_taken-taken.ensures) ∙ c.in-Ok.is in
    let below : a.phy < 24 = ((exists_iff s a.phy).0 ((event_done s a.phy a.source a.amount).0 taken).phy_exists).1 in
    record { fits = omega arith }
