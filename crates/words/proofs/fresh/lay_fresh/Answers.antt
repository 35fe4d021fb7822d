-- `words::fresh::lay_fresh` meets its contract: all words are 0, then the phys are laid, then the words before them. Assumes nothing.
use Rattle.std.proofs.Common.{ap, replicate, ◌∙◌}
use Rattle.words.proofs.Whole.{fresh_laid}
use Rattle.words.proofs.fresh.lay_fresh.Goals as goal

pub returns : goal.returns
returns c =
    let a = c.args in
    fresh_laid a.number a.groups a.table a.identifier
    (c.fill.ensures.after (λ y e. e) ∙ ap (λ n. replicate n 0) c.told-words)
    c.lay_phys.ensures
    (c.lay_front.ensures ∙ rw c.device_words-device.ensures)
