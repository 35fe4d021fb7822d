use Rattle.std.proofs.Common.{◌≡◌, length, get_or, refl, arith, add-one, ◌∙◌}
use lib.Seq.{take-length}
use Rattle.model.specs.Shelf.{no_phy, fresh_phys}
use Rattle.model.proofs.Plain.Start.{fresh_size}
use Rattle.words.specs.Sizes.{first_phy}
use Rattle.words.specs.Words.{phys_over}
use Rattle.words.proofs.Blocks.{row_more}
use Rattle.words.proofs.Pieces.{phy_block}
use Rattle.words.proofs.Whole.{fresh_at}
use Rattle.words.proofs.fresh.lay_phys.Goals as goal

pub loop-p-init : goal.loop-p-init
unfolding phys_over
loop-p-init c = refl

pub loop-p-preserved : goal.loop-p-preserved
unfolding phys_over
loop-p-preserved c =
    let a = c.args in
    let p = c.loop-p.p in
    let fresh = fresh_phys a.number a.groups in
    let size = fresh_size a.number a.groups in
    let is : c.fresh_phy-fresh.result ≡ get_or fresh p no_phy =
    rw (c.fresh_phy-fresh.ensures, c.start_group.ensures, fresh_at a.number a.groups p (omega arith)) in
    c.store_phy.ensures
    ∙ rw (is, add-one)
    (row_more phy_block a.words.now first_phy p fresh no_phy (omega (arith, size)) c.loop-p.invariant)

pub returns : goal.returns
returns c =
    let a = c.args in
    let done : c.loop-p.p ≡ length (fresh_phys a.number a.groups) = omega (arith, fresh_size a.number a.groups) in
    c.loop-p.invariant ∙ rw (done, take-length)
