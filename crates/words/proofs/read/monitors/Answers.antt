-- `words::read::monitors` meets its contract: one after another. Assumes nothing.
use native.Mathlib.Nat.{add-zero, add_assoc}
use Rattle.std.proofs.Common.{◌+◌, ◌*◌, refl, rules, tests, ◌∙◌}
use Rattle.words.specs.Sizes.{monitor_words}
use Rattle.words.specs.Words.{monitor_of}
use Rattle.words.proofs.Made.{made_is}
use Rattle.words.proofs.read.monitors.Goals as goal

pub returns : goal.returns
returns c =
    let a = c.args in
    made_is _ _ (λ i. monitor_of a.words.now (a.at + monitor_words * i)) (λ i m q k. search (rules, tests)) 4 _ c.from_fn.ensures.items
    ∙ simp (add-zero, add_assoc) refl
