-- `server::reach_query` meets its contract: the number of phys is the count of ones of the set. Assumes nothing.
use Rattle.std.proofs.Common.{◌≡◌, refl, sym, arith}
use Rattle.model.specs.Reach.{reach_set}
use Rattle.model.proofs.Plain.Reach.{reach_answered, reach_refused, reach_ones}
use Rattle.words.specs.Words.{shelf_of}
use Rattle.server.proofs.reach_query.Goals as goal

pub returns-then-source-le31 : goal.returns-then-source-le31
returns-then-source-le31 c =
    let s = shelf_of c.args.words.now in
    let set : c.reach_set-phys.result ≡ reach_set s c.args.source = c.reach_set-phys.ensures in
    rw (reach_answered s c.args.source (omega arith), reach_ones, ← set) refl

pub returns-else-source-le31 : goal.returns-else-source-le31
returns-else-source-le31 c = sym (reach_refused (shelf_of c.args.words.now) c.args.source (omega arith))
