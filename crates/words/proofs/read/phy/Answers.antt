-- `words::read::phy` meets its contract: a number of its own for each word, and four monitors. Assumes nothing.
use native.Mathlib.Nat.{add_assoc}
use Rattle.std.proofs.Common.{◌+◌, ◌≡◌, ◌∷◌, [], refl, rules, tests, ◌∙◌}
use Rattle.words.specs.Words.{word_at, phy_of}
use Rattle.words.proofs.Made.{made_is}
use Rattle.words.proofs.read.phy.Goals as goal

pub returns : goal.returns
unfolding phy_of
returns c =
    let ws = c.args.words.now in
    let at = c.args.at in
    let errors : c.from_fn.result ≡ word_at ws (at + 2) ∷ word_at ws (at + 3) ∷ word_at ws (at + 4) ∷ word_at ws (at + 5) ∷ [] =
    made_is _ _ (λ i. word_at ws (at + 2 + i)) (λ i n q k. search (rules, tests)) 4 _ c.from_fn.ensures.items
    ∙ simp add_assoc refl in
    rw (errors, c.monitors.ensures, c.low.ensures, c.low16.ensures, c.low16-2.ensures, c.low16-3.ensures)
