use Rattle.std.proofs.Common.{◌≡◌, ℕ, ◌+◌, Bool, arith, ◌∙◌, refl}
use Rattle.model.specs.Reach.{reach_set}
use Rattle.model.specs.Tests.{sum_below}
use Rattle.model.proofs.Laws.Bits.{powers, powers_fit}
use Rattle.shelf.proofs.Adding.{bit_added}
use Rattle.server.proofs.reach.reach_set.Invariants.{reached}
use Rattle.server.proofs.reach.reach_set.Goals as goal

pub loop-p-init : goal.loop-p-init
unfolding sum_below
loop-p-init c = refl

-- the phys that the source's row reaches
abbrev reached_here : goal.After-phy_bit-set → ℕ → Bool
reached_here c = reached c.row-row.result c.args.words.now

-- the set with what this turn adds to it
added : (c : goal.After-phy_bit-set) → c.loop-p.set + c.phy_bit-set.result ≡ powers (c.loop-p.p + 1) (reached_here c)
added c =
    bit_added c.loop-p.p (reached_here c) (omega arith) c.loop-p.invariant (rw c.phy_at-numbers.ensures at c.phy_bit-set.ensures)

pub overflow_add-set : goal.overflow_add-set
overflow_add-set c = rw (added c) (record { fits = powers_fit 32 _ (reached_here c) (omega arith) })

pub loop-p-preserved : goal.loop-p-preserved
loop-p-preserved c = added c

pub returns : goal.returns
unfolding reach_set
returns c =
    let done : c.loop-p.p ≡ c.phy_number-number.result = omega arith in
    (rw done at c.loop-p.invariant)
    ∙ rw (c.phy_number-number.ensures, c.number.ensures, c.row-row.ensures)
