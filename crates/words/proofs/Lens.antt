-- What is laid over words is what they then stand for (`back`), and any words stand for a shelf whose numbers fit (`stands_fit`). That the
-- shelf which words stand for, laid over them, changes nothing is `laid_same` of `Laying`. Assumes nothing.
use Prim.Native.Nat.{ℕ, suc, ◌+◌, ◌*◌, ◌%◌, ◌≤◌, ◌<◌}
use native.Mathlib.Omega.{arith}
use mathlib.Core.Path.{◌≡◌, refl, sym, ap, ◌∙◌}
use mathlib.Core.Bool.{Bool, true, false}
use mathlib.Core.List.{List, [], ◌∷◌, ◌++◌, append-nil, append_assoc}
use borrow.Author.Tests.{ltb-true, ltb-false}
use lib.Dec.{ltb}
use lib.ListN.{length, get_or, take, drop, length-append, length-take, length-drop}
use lib.Seq.{take_at, drop_at, drop-drop, get_or-drop}
use Rattle.model.specs.declared.Entry.{Entry}
use Rattle.model.specs.declared.Phy.{Phy}
use Rattle.model.specs.declared.Shelf.{Shelf}
use Rattle.model.specs.declared.Store.{Store}
use Rattle.model.specs.Bytes.{byte}
use Rattle.model.specs.Fits.{PhyFits, EntryFits, StoreFits, Fits}
use Rattle.model.specs.Shelf.{no_phy, no_entry}
use Rattle.model.specs.Zone.{row}
use Rattle.model.proofs.Laws.Places.{All, all_each, each_all}
use Rattle.words.specs.Memory.{WordsFit, Memory}
use Rattle.words.specs.Sizes.{phy_words, entry_words, first_row, first_phy, store_last, store_count, first_entry, shelf_words}
use Rattle.words.specs.Words.{word_at, low_set, row_of, phy_of, phys_of, phys_over, entry_from, entries_from, entries_over, store_of, store_over}
use Rattle.words.specs.Words.{eight, front_over, shelf_of, laid_over}
use Rattle.words.proofs.Low.{low_back, low_anew}
use Rattle.words.proofs.Blocks.{stands_at, row_each, row_laid_size, row_back, row_anew}
use Rattle.words.proofs.Pieces.{places_all, map_all, phy_block, phy_fitting, EntryLow, entry_low, entry_block, entry_fitting}
use Rattle.words.proofs.Reading.{phys_size, phy_there, row_there, row_past, entries_size}

-- ---- What is laid is read again

all_map : {A : Type 0} (P Q : A → Type 0) → ((x : A) → P x → Q x) → (xs : List A) → All P xs → All Q xs
all_map P Q each [] all = tt
all_map P Q each (x ∷ xs) all = (each x all.0, all_map P Q each xs all.1)

-- the phys of a shelf, one after another
each_phy : (xs : List Phy) → ((p : ℕ) → p < length xs → PhyFits (get_or xs p no_phy)) → All PhyFits xs
each_phy [] f = tt
each_phy (x ∷ xs) f = (f 0 (omega arith), each_phy xs (λ p below. f (suc p) (omega arith)))

pub all_phys : (s : Shelf) → Fits s → All PhyFits s.phys
all_phys s f = each_phy s.phys (rw f.phys_size f.phys)

pub all_entries : (k : Store) → StoreFits k → All EntryFits k.entries
all_entries k f = each_all EntryFits no_entry k.entries f.entries

-- of the list of stored peak events only the numbers that stand in low bits must be narrow
pub record StoreLow (k : Store) : Type 0 where
  pub last : k.last ≤ 0xFFFF
  pub entries_size : length k.entries ≡ 32
  pub entries : All EntryLow k.entries

pub store_low : (k : Store) → StoreFits k → StoreLow k
store_low k f =
    record { last = f.last; entries_size = f.entries_size; entries = all_map EntryFits EntryLow entry_low k.entries (all_entries k f) }

module _ (ws vs : List ℕ) where
  module _ (xs ys : List Phy) (rest : List ℕ) (f : All PhyFits xs) (size : length xs ≡ 24) (e : drop first_phy vs ≡ phys_over ws xs ++ rest) where
    phys_back : phys_of vs ≡ xs
    unfolding phys_of phys_over
    phys_back =
        ap (λ n. row_of phy_words phy_of n vs first_phy) (sym size) ∙ row_back phy_block ws xs first_phy first_phy vs rest f e

    phys_anew : length ys ≡ 24 → phys_over vs ys ≡ phys_over ws ys
    unfolding phys_over
    phys_anew as_many = row_anew phy_block ws xs ys first_phy vs rest f (omega arith) e

  module _ (k : Store) (low : StoreLow k) (e : drop store_last vs ≡ store_over ws k) where
    last_is : word_at vs store_last ≡ low_set 0x10000 (word_at ws store_last) k.last
    unfolding store_over
    last_is = sym (get_or-drop store_last vs 0 0) ∙ ap (λ l. word_at l 0) e

    count_is : word_at vs store_count ≡ k.count
    unfolding store_over
    count_is = sym (get_or-drop store_last vs 1 0) ∙ ap (λ l. word_at l 1) e

    entries_are : drop first_entry vs ≡ entries_over ws k.entries ++ []
    unfolding store_over
    entries_are = sym (drop-drop 2 store_last vs) ∙ ap (drop 2) e ∙ sym (append-nil (entries_over ws k.entries))

    entries_back : entries_from vs ≡ k.entries
    unfolding entries_from entries_over
    entries_back =
        ap (λ n. row_of entry_words entry_from n vs first_entry) (sym low.entries_size)
        ∙ row_back entry_block ws k.entries first_entry first_entry vs [] low.entries entries_are

    pub store_back : store_of vs ≡ k
    unfolding store_of
    store_back = rw (last_is, count_is, entries_back, low_back 0x10000 _ k.last (omega (arith, low.last)))

    entries_anew : (es : List Entry) → length es ≡ 32 → entries_over vs es ≡ entries_over ws es
    unfolding entries_over
    entries_anew es as_many =
        row_anew entry_block ws k.entries es first_entry vs [] low.entries (omega (arith, low.entries_size)) entries_are

    pub store_anew : (j : Store) → length j.entries ≡ 32 → store_over vs j ≡ store_over ws j
    unfolding store_over
    store_anew j as_many =
        rw (last_is, entries_anew j.entries as_many, low_anew 0x10000 (word_at ws store_last) k.last j.last (omega (arith, low.last)))

-- ---- Where the parts of what is laid begin, where it has 32 rows and 24 phys

module _ (ws : List ℕ) (s : Shelf) (rows : length s.table ≡ 32) where
  front_size : length (front_over ws s) ≡ first_phy
  unfolding front_over
  front_size = rw rows

  pub phys_from : drop first_phy (laid_over ws s) ≡ phys_over ws s.phys ++ store_over ws s.store
  unfolding laid_over
  phys_from =
      rw append_assoc (drop_at (front_over ws s) (phys_over ws s.phys ++ store_over ws s.store) first_phy front_size)

  module _ (places : length s.phys ≡ 24) where
    before_store : length (front_over ws s ++ phys_over ws s.phys) ≡ store_last
    unfolding phys_over
    before_store =
        rw (length-append (front_over ws s) (phys_over ws s.phys), front_size, row_laid_size phy_block ws first_phy s.phys, places)

    pub store_from : drop store_last (laid_over ws s) ≡ store_over ws s.store
    unfolding laid_over
    store_from = drop_at (front_over ws s ++ phys_over ws s.phys) (store_over ws s.store) store_last before_store

    pub before_from : take store_last (laid_over ws s) ≡ front_over ws s ++ phys_over ws s.phys
    unfolding laid_over
    before_from = take_at (front_over ws s ++ phys_over ws s.phys) (store_over ws s.store) store_last before_store

    pub laid_size : length s.store.entries ≡ 32 → length (laid_over ws s) ≡ shelf_words
    unfolding laid_over store_over entries_over
    laid_size entries =
        rw (
          length-append (front_over ws s ++ phys_over ws s.phys) (store_over ws s.store),
          before_store,
          row_laid_size entry_block ws first_entry s.store.entries,
          entries,
        )

-- ---- A shelf whose numbers have their sizes and widths, laid over any words

module _ (ws : List ℕ) (s : Shelf) (f : Fits s) where
  laid_phys : drop first_phy (laid_over ws s) ≡ phys_over ws s.phys ++ store_over ws s.store
  laid_phys = phys_from ws s f.table_size

  laid_store : drop store_last (laid_over ws s) ≡ store_over ws s.store
  laid_store = store_from ws s f.table_size f.phys_size

  -- the words then stand for it
  pub back : shelf_of (laid_over ws s) ≡ s
  unfolding shelf_of laid_over front_over
  back =
      let behind : List ℕ = phys_over ws s.phys ++ store_over ws s.store in
      let rows : take 32 (s.table ++ phys_over ws s.phys ++ store_over ws s.store) ≡ s.table =
      ap (take 32) (append_assoc s.table (phys_over ws s.phys) (store_over ws s.store)) ∙ take_at s.table behind 32 f.table_size in
      let named : (w i : ℕ) → low_set 0x100 w (byte s.identifier i) % 0x100 ≡ byte s.identifier i =
      λ w i. low_back 0x100 w (byte s.identifier i) (omega (arith, f.identifier i)) in
      rw (
        phys_back ws (laid_over ws s) s.phys [] (store_over ws s.store) (all_phys s f) f.phys_size laid_phys,
        store_back ws (laid_over ws s) s.store (store_low s.store f.store) laid_store,
        rows,
        low_back 0x10000 _ s.changes (omega (arith, f.changes)),
        low_back 0x10000 _ s.expander3 (omega (arith, f.expander3)),
        low_back 0x10000 _ s.ses0 (omega (arith, f.ses0)),
      )
      (simp named (rw (places_all 0 s.identifier 8 f.identifier_size)))

  -- and nothing of it is left where another shelf is laid over it
  pub laid_anew : (t : Shelf) → length t.phys ≡ 24 → length t.store.entries ≡ 32 → laid_over (laid_over ws s) t ≡ laid_over ws t
  unfolding laid_over front_over
  laid_anew t phys entries =
      let named : (w i n : ℕ) → low_set 0x100 (low_set 0x100 w (byte s.identifier i)) n ≡ low_set 0x100 w n =
      λ w i n. low_anew 0x100 w (byte s.identifier i) n (omega (arith, f.identifier i)) in
      rw (
        phys_anew ws (laid_over ws s) s.phys t.phys (store_over ws s.store) (all_phys s f) f.phys_size laid_phys phys,
        store_anew ws (laid_over ws s) s.store (store_low s.store f.store) laid_store t.store entries,
        low_anew 0x10000 _ s.changes t.changes (omega (arith, f.changes)),
        low_anew 0x10000 _ s.expander3 t.expander3 (omega (arith, f.expander3)),
        low_anew 0x10000 _ s.ses0 t.ses0 (omega (arith, f.ses0)),
      )
      (simp named)

-- ---- Any words stand for a shelf whose numbers fit

-- a row is a word, and past the last stands 0
row_fits : (ws : List ℕ) → WordsFit ws → (g : ℕ) (b : Bool) → ltb g 32 ≡ b → row (shelf_of ws).table g ≤ 0xFFFFFFFF
row_fits ws fit g true e = rw (row_there ws g (ltb-true g 32 e)) (fit (first_row + g))
row_fits ws fit g false e = rw (row_past ws g (ltb-false g 32 e)) (omega arith)

-- the list of stored peak events: of any words its narrow numbers are narrow, and of words of 32 bits all its numbers fit
pub stands_low : (ws : List ℕ) → StoreLow (store_of ws)
unfolding store_of entries_from
stands_low ws =
    record {
      last = omega arith;
      entries_size = entries_size ws;
      entries = row_each entry_block ws EntryLow (λ at. record { phy = omega arith; source = omega arith }) 32 first_entry;
    }

store_stands : (ws : List ℕ) → WordsFit ws → StoreFits (store_of ws)
unfolding store_of entries_from
store_stands ws fit =
    record {
      last = omega arith;
      count = fit store_count;
      entries_size = entries_size ws;
      entries =
          all_each EntryFits no_entry (entries_from ws) (omega arith)
          (row_each entry_block ws EntryFits (stands_at entry_block ws entry_fitting fit) 32 first_entry);
    }

-- The caller may keep what he likes there, so long as it is as many words: they stand for a shelf of the right sizes and widths.
pub stands_fit : (ws : List ℕ) → Memory ws → Fits (shelf_of ws)
unfolding shelf_of
stands_fit ws memory =
    let fit : WordsFit ws = memory.words in
    let bytes : All (λ n. n ≤ 0xFF) (shelf_of ws).identifier =
    map_all (λ n. n ≤ 0xFF) (λ i. word_at ws (4 + i) % 0x100) (λ i. omega arith) eight in
    record {
      number = fit 0;
      phys_size = phys_size ws;
      phys = λ p below. rw (phy_there ws p below) (stands_at phy_block ws phy_fitting fit (first_phy + phy_words * p));
      table_size = simp (length-take, length-drop) (omega arith);
      table = λ g. row_fits ws fit g (ltb g 32) refl;
      identifier_size = refl;
      identifier = all_each (λ n. n ≤ 0xFF) 0 (shelf_of ws).identifier (omega arith) bytes;
      changes = omega arith;
      expander3 = omega arith;
      ses0 = omega arith;
      store = store_stands ws fit;
    }
