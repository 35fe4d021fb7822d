-- `all` over the numbers 0 to n - 1, or over the first n elements of a list, is the test of each; and a fold that asks every element is `all`.
-- Assumes nothing.
use Prim.Native.Nat.{ℕ, zero, suc, ◌≤◌, ◌<◌}
use native.Mathlib.Nat.{zero-add}
use native.Mathlib.Numerals.{add-one}
use native.Mathlib.Omega.{arith}
use mathlib.Core.Path.{◌≡◌, refl, sym, ap, ◌∙◌}
use mathlib.Core.Bool.{Bool, true, false, ◌&&◌}
use mathlib.Core.List.{List, [], ◌∷◌}
use lib.ListN.{length, get_or, take}
use lib.Seq.{take_all}
use Rattle.std.specs.List.{fold, list_all, range_with_len}
use Rattle.std.proofs.lemmas.List.Folds.{list_all_more}
use Rattle.std.proofs.lemmas.List.FromFn.{length-range_with_len, get_or-range_with_len}
use Rattle.model.specs.Tests.{all_below}

module _ {X : Type 0} (p : X → Bool) (xs : List X) (d : X) (test : ℕ → Bool) where
  pub all_of_list : (n : ℕ) → n ≤ length xs → ((i : ℕ) → i < n → p (get_or xs i d) ≡ test i) → list_all p (take n xs) ≡ all_below n test
  unfolding all_below
  all_of_list zero few same = refl
  all_of_list (suc n) few same =
      let so_far : list_all p (take n xs) ≡ all_below n test = all_of_list n (omega arith) (λ i h. same i (omega arith)) in
      rw (← add-one n, list_all_more p xs n d (omega arith), so_far, same n (omega arith)) refl

pub all_of_range : (p test : ℕ → Bool) (n : ℕ) → ((i : ℕ) → i < n → p i ≡ test i) → list_all p (range_with_len 0 n) ≡ all_below n test
all_of_range p test n same =
    let xs : List ℕ = range_with_len 0 n in
    let long : length xs ≡ n = length-range_with_len 0 n in
    let whole : take n xs ≡ xs = take_all n xs (omega arith) in
    let here : (i : ℕ) → i < n → p (get_or xs i 0) ≡ test i =
    λ i h. rw (get_or-range_with_len 0 n i 0 h, zero-add i) (same i h) in
    ap (list_all p) (sym whole) ∙ all_of_list p xs 0 test n (omega arith) here

module _ {X : Type 0} (p : X → Bool) where
  fold_all : (so_far : Bool) (xs : List X) → fold (λ ok x. ok && p x) so_far xs ≡ (so_far && list_all p xs)
  fold_all true [] = refl
  fold_all false [] = refl
  fold_all true (x ∷ xs) = fold_all (p x) xs
  fold_all false (x ∷ xs) = fold_all false xs

  pub all_by_fold : (xs : List X) → fold (λ ok x. ok && p x) true xs ≡ list_all p xs
  all_by_fold xs = fold_all true xs
