-- Laying a shelf over its words: what it leaves as it was, and what storing one phy, a count, or an entry of the list of stored peak events
-- comes to. Assumes nothing.
use Prim.Native.Nat.{ℕ, ◌+◌, ◌*◌, ◌%◌, ◌≤◌, ◌<◌}
use native.Mathlib.Omega.{arith}
use mathlib.Core.Path.{◌≡◌, refl, sym, ap, ◌∙◌}
use mathlib.Core.List.{List, [], ◌∷◌, ◌++◌, append_assoc, append-nil}
use lib.ListN.{length, set, take, drop, take-append-drop, drop_of_length-le, length-append}
use lib.Seq.{sets, sets-eq, take-add, take_at, take-append-le, take-take, drop_at, drop-cons, set_out, length-take-le}
use Rattle.model.specs.declared.Entry.{Entry}
use Rattle.model.specs.declared.Phy.{Phy}
use Rattle.model.specs.declared.Store.{Store}
use Rattle.model.specs.Counting.{originate}
use Rattle.model.specs.Shelf.{put, put_device, put_store}
use Rattle.model.specs.Store.{count_on, store}
use Rattle.model.proofs.Laws.Places.{sets_before}
use Rattle.words.specs.Sizes.{phy_words, entry_words, first_row, first_phy, store_last, store_count, first_entry, shelf_words}
use Rattle.words.specs.Words.{word_at, low_set, phy_over, phys_of, phys_over, entry_over, entries_from, entries_over, store_of, store_over}
use Rattle.words.specs.Words.{front_over, shelf_of, laid_over}
use Rattle.words.proofs.Low.{low_same}
use Rattle.words.proofs.Blocks.{row_laid_size, row_same, row_set}
use Rattle.words.proofs.Pieces.{places, places_are, phy_block, entry_block}
use Rattle.words.proofs.Reading.{phys_size}

module _ (ws : List ℕ) (long : length ws ≡ shelf_words) where
  -- ---- the list of stored peak events, whose entries stand last

  last : (xs : List ℕ) → xs ++ drop shelf_words ws ≡ xs
  last xs = rw (drop_of_length-le ws {i = shelf_words} (omega arith)) (append-nil xs)

  entries_same : entries_over ws (entries_from ws) ≡ drop first_entry ws
  unfolding entries_from entries_over
  entries_same = sym (last (entries_over ws (entries_from ws))) ∙ row_same entry_block ws 32 first_entry (omega arith)

  entries_set : (i : ℕ) (e : Entry) → i < 32
      → sets ws (first_entry + entry_words * i) (entry_over ws (first_entry + entry_words * i) e)
      ≡ take first_entry ws ++ entries_over ws (set (entries_from ws) i e)
  unfolding entries_from entries_over
  entries_set i e below =
      row_set entry_block ws 32 i first_entry e below (omega arith)
      ∙ last (take first_entry ws ++ entries_over ws (set (entries_from ws) i e))

  store_same : store_over ws (store_of ws) ≡ drop store_last ws
  unfolding store_of store_over
  store_same =
      ap (λ w. w ∷ word_at ws store_count ∷ entries_over ws (entries_from ws)) (low_same 0x10000 (word_at ws store_last))
      ∙ rw (entries_same, drop-cons ws store_last 0 (omega arith), drop-cons ws store_count 0 (omega arith))

  -- ---- the phys, before it

  phys_same : phys_over ws (phys_of ws) ++ drop store_last ws ≡ drop first_phy ws
  unfolding phys_of phys_over
  phys_same = row_same phy_block ws 24 first_phy (omega arith)

  phys_set : (p : ℕ) (x : Phy) → p < 24
      → sets ws (first_phy + phy_words * p) (phy_over ws (first_phy + phy_words * p) x)
      ≡ take first_phy ws ++ phys_over ws (set (phys_of ws) p x) ++ drop store_last ws
  unfolding phys_of phys_over
  phys_set p x below = row_set phy_block ws 24 p first_phy x below (omega arith)

  phys_laid : length (phys_over ws (phys_of ws)) ≡ 24 * phy_words
  unfolding phys_over
  phys_laid = row_laid_size phy_block ws first_phy (phys_of ws) ∙ rw (phys_size ws)

  -- ---- the shelf

  -- the words before the phys, the device wide ones one by one
  front : take first_phy ws ≡ places 0 ws first_row 0 ++ take 32 (drop first_row ws)
  front = rw (take-add first_row 32 ws, ← places_are 0 ws first_row 0 (omega arith))

  -- one phy and the change count
  pub laid_put : (p : ℕ) (x : Phy) (changes : ℕ) → p < 24
      → laid_over ws (put (shelf_of ws) p x changes)
      ≡ set (sets ws (first_phy + phy_words * p) (phy_over ws (first_phy + phy_words * p) x)) 1 (low_set 0x10000 (word_at ws 1) changes)
  unfolding laid_over front_over shelf_of
  laid_put p x changes below = rw (phys_set p x below, store_same, front) (simp low_same refl)

  -- .. as it is stored: first the phy, then the count in word 1, which no phy's words touch
  pub put_stored : (p : ℕ) (x : Phy) (changes : ℕ) → p < 24 → {stored : List ℕ} {n : ℕ}
      → stored ≡ sets ws (first_phy + phy_words * p) (phy_over ws (first_phy + phy_words * p) x)
      → n ≡ low_set 0x10000 (word_at stored 1) changes
      → set stored 1 n ≡ laid_over ws (put (shelf_of ws) p x changes)
  put_stored p x changes below e is_n =
      let at : ℕ = first_phy + phy_words * p in
      rw (is_n, e, sets_before (phy_over ws at x) ws at 1 0 (omega arith), laid_put p x changes below)

  -- all words
  whole : ws ≡ places 0 ws first_row 0 ++ take 32 (drop first_row ws) ++ phys_over ws (phys_of ws) ++ drop store_last ws
  whole =
      sym
      (append_assoc (places 0 ws first_row 0 ++ take 32 (drop first_row ws)) (phys_over ws (phys_of ws)) (drop store_last ws)
      ∙ ap (λ l. places 0 ws first_row 0 ++ take 32 (drop first_row ws) ++ l) phys_same
      ∙ ap (λ l. l ++ drop first_phy ws) (sym front)
      ∙ take-append-drop first_phy ws)

  -- the shelf that they stand for
  pub laid_same : laid_over ws (shelf_of ws) ≡ ws
  unfolding laid_over front_over shelf_of
  laid_same = rw store_same (simp low_same (sym whole))

  -- the change count alone, where there is no such phy
  pub laid_past : (p : ℕ) (x : Phy) (changes : ℕ) → 24 ≤ p
      → laid_over ws (put (shelf_of ws) p x changes) ≡ set ws 1 (low_set 0x10000 (word_at ws 1) changes)
  unfolding laid_over front_over shelf_of
  laid_past p x changes past =
      rw (set_out (phys_of ws) p x (omega (arith, phys_size ws)), store_same)
      (simp low_same (sym (ap (λ l. set l 1 (low_set 0x10000 (word_at ws 1) changes)) whole)))

  -- the counts under FFh
  pub laid_device : (expander3 ses0 : ℕ)
      → laid_over ws (put_device (shelf_of ws) expander3 ses0)
      ≡ set (set ws 2 (low_set 0x10000 (word_at ws 2) expander3)) 3 (low_set 0x10000 (word_at ws 3) ses0)
  unfolding laid_over front_over shelf_of
  laid_device expander3 ses0 =
      rw store_same
      (simp low_same
      (sym (ap (λ l. set (set l 2 (low_set 0x10000 (word_at ws 2) expander3)) 3 (low_set 0x10000 (word_at ws 3) ses0)) whole)))

  -- ---- another list of stored peak events: what stands before it stays

  pub laid_store : (k : Store) → laid_over ws (put_store (shelf_of ws) k) ≡ take store_last ws ++ store_over ws k
  unfolding laid_over front_over shelf_of
  laid_store k =
      let n : ℕ = 24 * phy_words in
      let size : length (phys_over ws (phys_of ws)) ≡ n = phys_laid in
      let phys : phys_over ws (phys_of ws) ≡ take n (drop first_phy ws) =
      sym (take_at (phys_over ws (phys_of ws)) (drop store_last ws) n size) ∙ ap (take n) phys_same in
      rw (phys, take-add first_phy n ws, front) (simp low_same refl)

  -- the entry at place i, then the two words before all entries
  store_set : (i : ℕ) (e : Entry) (index count : ℕ) → i < 32
      → sets (sets ws (first_entry + entry_words * i) (entry_over ws (first_entry + entry_words * i) e)) store_last (index ∷ count ∷ [])
      ≡ take store_last ws ++ index ∷ count ∷ entries_over ws (set (entries_from ws) i e)
  store_set i e index count below =
      let all : List ℕ = entries_over ws (set (entries_from ws) i e) in
      let size : length (take first_entry ws) ≡ first_entry = length-take-le first_entry ws (omega arith) in
      let long_now : first_entry ≤ length (take first_entry ws ++ all) = omega (arith, length-append (take first_entry ws) all) in
      rw (
        entries_set i e below,
        sets-eq (index ∷ count ∷ []) (take first_entry ws ++ all) store_last long_now,
        drop_at (take first_entry ws) all first_entry size,
        take-append-le store_last (take first_entry ws) all (omega arith),
        take-take store_last first_entry ws (omega arith),
      )
      (append_assoc (take store_last ws) (index ∷ count ∷ []) all)

  -- where the next entry is stored
  abbrev next : ℕ
  next = first_entry + entry_words * (word_at ws store_count % 32)

  -- one more entry, as it is stored: first the entry, then the last index, then how many stores there were
  pub entry_stored : (e : Entry) {stored : List ℕ} {index count : ℕ}
      → stored ≡ sets ws next (entry_over ws next e)
      → index ≡ low_set 0x10000 (word_at stored store_last) (originate (word_at stored store_last % 0x10000))
      → count ≡ count_on (word_at ws store_count)
      → set (set stored store_last index) store_count count ≡ laid_over ws (put_store (shelf_of ws) (store (shelf_of ws).store e))
  unfolding shelf_of store_of store_over store
  entry_stored e {stored} {index} {count} is_stored is_index is_count =
      let last : ℕ = word_at ws store_last in
      let kept : word_at stored store_last ≡ last =
      ap (λ l. word_at l store_last) is_stored ∙ sets_before (entry_over ws next e) ws next store_last 0 (omega arith) in
      rw (laid_store (store (shelf_of ws).store e), is_index, is_count, kept, is_stored)
      (store_set (word_at ws store_count % 32) e (low_set 0x10000 last (originate (last % 0x10000))) (count_on (word_at ws store_count)) (omega arith))
