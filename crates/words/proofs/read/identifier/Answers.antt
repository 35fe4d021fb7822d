-- `words::read::identifier` meets its contract: a byte off each of its words. Assumes nothing.
use Rattle.std.proofs.Common.{◌+◌, ◌%◌, rules, tests}
use Rattle.words.specs.Words.{word_at, shelf_of}
use Rattle.words.proofs.Made.{made_is}
use Rattle.words.proofs.read.identifier.Goals as goal

pub returns : goal.returns
unfolding shelf_of
returns c =
    made_is _ _ (λ i. word_at c.args.words.now (4 + i) % 0x100) (λ i n q k. search (rules, tests)) 8 _ c.from_fn.ensures.items
