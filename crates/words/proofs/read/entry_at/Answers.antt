-- `words::read::entry_at` meets its contract: the entry from its place on, or none. Assumes nothing.
use Rattle.std.proofs.Common.{◌≡◌, arith, rules, sym, ◌∙◌}
use Rattle.model.specs.Shelf.{no_entry}
use Rattle.words.specs.Words.{shelf_of}
use Rattle.words.proofs.Reading.{entry_there, entry_past}
use Rattle.words.proofs.read.entry_at.Goals as goal

pub returns-then-i-ge32 : goal.returns-then-i-ge32
unfolding shelf_of
returns-then-i-ge32 c =
    let none : c.default.result ≡ no_entry = search rules in
    none ∙ sym (entry_past c.args.words.now c.args.i (omega arith))

pub returns : goal.returns
unfolding shelf_of
returns c = c.entry.ensures ∙ sym (entry_there c.args.words.now c.args.i (omega arith))
