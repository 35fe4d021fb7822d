-- `shelf::start::groups_fit` meets its contract: each of the first groups is a zone group. Assumes nothing.
use mathlib.Core.Bool.{◌&&◌}
use Rattle.std.proofs.Common.{true, refl, arith, rules, tests, ◌∙◌, take}
use Rattle.std.proofs.lemmas.Iterator.{YieldsList-from_slice}
use Rattle.std.proofs.lemmas.Iterator.Consumers.{fold_from_yields_List}
use Rattle.model.specs.Zone.{zone_group}
use Rattle.shelf.proofs.All.{all_by_fold, all_of_list}
use Rattle.shelf.proofs.start.groups_fit.Goals as goal

pub returns : goal.returns
returns c =
    let a = c.args in
    fold_from_yields_List _ (λ so_far group. so_far && zone_group group) true _ c.fold.ensures.ran
    (YieldsList-from_slice (take a.number a.groups) cc)
    (λ so_far x r q k. search (rules, tests))
    ∙ all_by_fold zone_group (take a.number a.groups)
    ∙ all_of_list zone_group a.groups 0 _ a.number (omega arith) (λ p below. refl)
