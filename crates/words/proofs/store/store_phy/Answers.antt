-- `words::store::store_phy` meets its contract: three runs of words, each behind the other. Assumes nothing.
use Rattle.std.proofs.Common.{◌∙◌}
use Rattle.words.proofs.Pieces.{phy_stored}
use Rattle.words.proofs.store.store_phy.Goals as goal

pub returns : goal.returns
returns c =
    phy_stored c.args.words.now c.args.at c.args.numbers
    c.head_over-head.ensures
    (c.as_flattened.ensures.value ∙ c.monitors_over-monitors.ensures)
    c.counts_over-counts.ensures
    c.store.ensures
    c.store-2.ensures
    c.store-3.ensures
