-- `shelf::table::symmetric` meets its contract: each row is symmetric. Assumes nothing.
use mathlib.Core.Bool.{◌&&◌}
use Rattle.std.proofs.Common.{true, refl, arith, rules, tests, ◌∙◌}
use Rattle.std.proofs.lemmas.Iterator.{YieldsList-from_range}
use Rattle.std.proofs.lemmas.Iterator.Consumers.{fold_from_yields_List}
use Rattle.std.specs.List.{range_with_len}
use Rattle.model.specs.Zone.{row_symmetric, symmetric}
use Rattle.shelf.proofs.All.{all_by_fold, all_of_range}
use Rattle.shelf.proofs.table.symmetric.Goals as goal

pub returns : goal.returns
unfolding symmetric
returns c =
    let table = c.args.table in
    fold_from_yields_List _ (λ so_far g. so_far && row_symmetric table g) true _ c.fold.ensures.ran (YieldsList-from_range 0 _ 32 refl (omega arith))
    (λ so_far g r q k. search (rules, tests))
    ∙ all_by_fold (row_symmetric table) (range_with_len 0 32)
    ∙ all_of_range _ _ 32 (λ g below. refl)
