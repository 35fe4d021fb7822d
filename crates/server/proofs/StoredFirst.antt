-- The list of stored peak events is laid over the words first, and then a phy and the change count are put: it is as if all had been laid at
-- once, since a phy and the count stand before the list. Assumes nothing.
use Prim.Native.Nat.{ℕ, suc, ◌+◌, ◌*◌, ◌≤◌, ◌<◌}
use native.Mathlib.Omega.{arith}
use mathlib.Core.Path.{◌≡◌, refl, sym, ap, ◌∙◌}
use mathlib.Core.Bool.{Bool, true, false}
use mathlib.Core.List.{List, [], ◌∷◌, ◌++◌}
use borrow.Author.Tests.{ltb-true, ltb-false}
use lib.Dec.{ltb}
use lib.ListN.{length, set, take, length-take, length-drop, length-set, get_or-append}
use lib.Seq.{sets, length-sets, set-append_left, take-set-lt, get_or-take}
use Rattle.model.specs.declared.Phy.{Phy}
use Rattle.model.specs.declared.Shelf.{Shelf}
use Rattle.model.specs.declared.Store.{Store}
use Rattle.model.specs.Shelf.{put, put_store}
use Rattle.words.specs.Sizes.{phy_words, first_phy, store_last, shelf_words}
use Rattle.words.specs.Words.{word_at, low_set, phy_over, phys_of, store_over, front_over, shelf_of, laid_over}
use Rattle.words.proofs.Laying.{laid_put, laid_past, laid_store}
use Rattle.words.proofs.Lens.{before_from, laid_size}
use Rattle.words.proofs.Reading.{phys_size}

-- ---- Over plain lists: what is written in the first of two is written in it alone

sets_front : (vs xs ys : List ℕ) (i : ℕ) → i + length vs ≤ length xs → sets (xs ++ ys) i vs ≡ sets xs i vs ++ ys
sets_front [] xs ys i fits = refl
sets_front (v ∷ vs) xs ys i fits =
    ap (λ l. sets l (suc i) vs) (set-append_left xs ys i v (omega arith))
    ∙ sets_front vs (set xs i v) ys (suc i) (omega (arith, length-set xs i v))

take_sets : (vs xs : List ℕ) (n i : ℕ) → i + length vs ≤ n → take n (sets xs i vs) ≡ sets (take n xs) i vs
take_sets [] xs n i fits = refl
take_sets (v ∷ vs) xs n i fits =
    take_sets vs (set xs i v) n (suc i) (omega arith) ∙ ap (λ l. sets l (suc i) vs) (take-set-lt n xs i v (omega arith))

-- numbers from a place on, and one at another place
both_front : (vs xs ys : List ℕ) (n i j v : ℕ) → i + length vs ≤ n → j < n → n ≤ length xs
    → set (sets (take n xs ++ ys) i vs) j v ≡ take n (set (sets xs i vs) j v) ++ ys
both_front vs xs ys n i j v fits below long =
    let size : length (take n xs) ≡ n = omega (arith, length-take n xs) in
    ap (λ l. set l j v) (sets_front vs (take n xs) ys i (omega arith))
    ∙ set-append_left (sets (take n xs) i vs) ys j v (omega (arith, length-sets (take n xs) i vs))
    ∙ ap (λ l. set l j v ++ ys) (sym (take_sets vs xs n i fits))
    ∙ ap (λ l. l ++ ys) (sym (take-set-lt n (sets xs i vs) j v below))

-- ---- A phy, put over words in which the list stands anew

module _ (ws : List ℕ) (long : length ws ≡ shelf_words) (k : Store) (size : length k.entries ≡ 32) {now : List ℕ}
    (is_now : now ≡ laid_over ws (put_store (shelf_of ws) k))
  where
    parts : now ≡ take store_last ws ++ store_over ws k
    parts = is_now ∙ laid_store ws long k

    front_size : length (take store_last ws) ≡ store_last
    front_size = omega (arith, length-take store_last ws)

    table_size : length (shelf_of ws).table ≡ 32
    unfolding shelf_of
    table_size = simp (length-take, length-drop) (omega arith)

    phys_24 : length (shelf_of ws).phys ≡ 24
    unfolding shelf_of
    phys_24 = phys_size ws

    long_now : length now ≡ shelf_words
    long_now = rw is_now (laid_size ws (put_store (shelf_of ws) k) table_size phys_24 size)

    -- the words before the list are as they were
    same_before : (i : ℕ) → i < store_last → word_at now i ≡ word_at ws i
    same_before i below =
        rw parts
        (get_or-append (take store_last ws) (store_over ws k) 0 i (omega (arith, front_size)) ∙ get_or-take store_last ws i 0 below)

    phy_same : (at : ℕ) (x : Phy) → at + phy_words ≤ store_last → phy_over now at x ≡ phy_over ws at x
    unfolding phy_over
    phy_same at x fits =
        rw (
          same_before (at + 1) (omega arith),
          same_before (at + 6) (omega arith),
          same_before (at + 6 + 3) (omega arith),
          same_before (at + 6 + 3 + 3) (omega arith),
          same_before (at + 6 + 3 + 3 + 3) (omega arith),
          same_before (at + 18) (omega arith),
          same_before (at + 18 + 1) (omega arith),
          same_before (at + 18 + 2) (omega arith),
        )

    phy_size : (at : ℕ) (x : Phy) → length (phy_over ws at x) ≡ phy_words
    unfolding phy_over
    phy_size at x = refl

    module _ (p : ℕ) (x : Phy) (count : ℕ) where
      abbrev s : Shelf
      s = put (shelf_of ws) p x count

      abbrev count_word : ℕ
      count_word = low_set 0x10000 (word_at ws 1) count

      -- all at once: what stands before the list, and the list
      at_once : length s.phys ≡ 24 → laid_over ws (put_store s k) ≡ take store_last (laid_over ws s) ++ store_over ws k
      unfolding laid_over front_over
      at_once phys = ap (λ l. l ++ store_over ws k) (sym (before_from ws s table_size phys))

      put_there : p < 24 → laid_over now (put (shelf_of now) p x count) ≡ take store_last (laid_over ws s) ++ store_over ws k
      put_there below =
          let at : ℕ = first_phy + phy_words * p in
          laid_put now long_now p x count below
          ∙ rw (phy_same at x (omega arith), same_before 1 (omega arith), parts)
          (both_front (phy_over ws at x) ws (store_over ws k) store_last at 1 count_word (omega (arith, phy_size at x)) (omega arith) (omega arith))
          ∙ ap (λ l. take store_last l ++ store_over ws k) (sym (laid_put ws long p x count below))

      put_nowhere : 24 ≤ p → laid_over now (put (shelf_of now) p x count) ≡ take store_last (laid_over ws s) ++ store_over ws k
      put_nowhere past =
          laid_past now long_now p x count past
          ∙ rw (same_before 1 (omega arith), parts) (both_front [] ws (store_over ws k) store_last 0 1 count_word (omega arith) (omega arith) (omega arith))
          ∙ ap (λ l. take store_last l ++ store_over ws k) (sym (laid_past ws long p x count past))

      pub put_after : {next : List ℕ} → next ≡ laid_over now (put (shelf_of now) p x count) → next ≡ laid_over ws (put_store s k)
      unfolding shelf_of
      put_after is_next = is_next ∙ go (ltb p 24) refl ∙ sym (at_once (length-set (phys_of ws) p x ∙ phys_size ws))
        where
          go : (b : Bool) → ltb p 24 ≡ b → laid_over now (put (shelf_of now) p x count) ≡ take store_last (laid_over ws s) ++ store_over ws k
          go true e = put_there (ltb-true p 24 e)
          go false e = put_nowhere (ltb-false p 24 e)
