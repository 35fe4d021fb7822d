-- `peaks::number_returned` meets its contract: `by_number` of the model, at a start of 0000h, at one that is stored and at one that is
-- not. Assumes nothing.
use Rattle.std.proofs.Common.{arith}
use Rattle.peaks.proofs.Number.{counted}
use Rattle.peaks.proofs.number_returned.Goals as goal

-- src/lib.rt:50:9
pub returns-then-start-eq0 : goal.returns-then-start-eq0
returns-then-start-eq0 c = grind (arith, (counted c.args.words.now c.args.start (omega arith)).number)

-- src/lib.rt:44:1
pub returns-then-before-kept : goal.returns-then-before-kept
returns-then-before-kept c = grind (arith, c.last.ensures, (counted c.args.words.now c.args.start (omega arith)).number)

-- src/lib.rt:44:1
pub returns-else-before-kept : goal.returns-else-before-kept
returns-else-before-kept c = grind (arith, c.last.ensures, (counted c.args.words.now c.args.start (omega arith)).number)
