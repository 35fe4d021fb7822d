-- `words::fresh::lay_phys` meets its contract. The loop's invariant: the first p fresh phys are laid over the words. Assumes nothing.
use Rattle.std.proofs.Common.{◌≡◌, take}
use lib.Seq.{sets}
use Rattle.model.specs.Shelf.{fresh_phys}
use Rattle.words.specs.Sizes.{first_phy}
use Rattle.words.specs.Words.{phys_over}
use Rattle.words.proofs.fresh.lay_phys.Given as goal

abbrev pub invariant-loop-p : goal.invariant-loop-p
invariant-loop-p l =
    l.words ≡ sets l.initial.words first_phy (phys_over l.initial.words (take l.p (fresh_phys l.number l.groups)))
