-- `words::read::row` meets its contract: the row at its place, or none. Assumes nothing.
use Rattle.std.proofs.Common.{arith, sym}
use Rattle.words.proofs.Reading.{row_there, row_past}
use Rattle.words.proofs.read.row.Goals as goal

pub returns-then-g-gt31 : goal.returns-then-g-gt31
returns-then-g-gt31 c = sym (row_past c.args.words.now c.args.g (omega arith))

pub returns : goal.returns
returns c = sym (row_there c.args.words.now c.args.g (omega arith))
