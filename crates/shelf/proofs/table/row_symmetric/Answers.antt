-- `shelf::table::row_symmetric` meets its contract: each bit of the row is mirrored; for a group of 0 to 31 the row test is
-- the bit. Assumes nothing.
use borrow.Author.Tests.{le-leb}
use mathlib.Core.Bool.{beq, ◌&&◌}
use Rattle.std.proofs.Common.{ℕ, Bool, true, refl, arith, rules, tests, ◌∙◌}
use Rattle.std.proofs.lemmas.Iterator.{YieldsList-from_range}
use Rattle.std.proofs.lemmas.Iterator.Consumers.{fold_from_yields_List}
use Rattle.std.specs.List.{range_with_len}
use Rattle.model.specs.Zone.{bit, row, row_reaches}
use Rattle.shelf.proofs.All.{all_by_fold, all_of_range}
use Rattle.shelf.proofs.table.row_symmetric.Goals as goal

pub returns : goal.returns
unfolding row_reaches
returns c =
    let g = c.args.g in
    let table = c.args.table in
    let reached : ℕ → Bool = λ h. beq (row_reaches (row table g) h) (row_reaches (row table h) g) in
    fold_from_yields_List _ (λ so_far h. so_far && reached h) true _ c.fold.ensures.ran (YieldsList-from_range 0 _ 32 refl (omega arith))
    (λ so_far h r q k. search (rules, tests))
    ∙ all_by_fold reached (range_with_len 0 32)
    ∙ all_of_range reached (λ h. beq (bit (row table g) h) (bit (row table h) g)) 32
    (λ h below. simp (le-leb h 31 (omega arith), le-leb g 31 (omega arith)))
