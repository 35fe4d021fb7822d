-- After every call the words stand for the model's next shelf, and so after a start. A call lays the shelf that comes of it over
-- the words that it found. Nothing is asked but what the types say: words of 32 bits, bytes, 32-bit amounts. Assumes nothing.
use Rattle.std.specs.Prelude.{Ok}
use Prim.Native.Nat.{ℕ, ◌+◌, ◌≤◌}
use native.Mathlib.Omega.{arith}
use mathlib.Core.Path.{◌≡◌, refl}
use mathlib.Core.List.{List, ◌++◌}
use lib.ListN.{take, replicate}
use Rattle.model.specs.declared.Outcome.{Outcome}
use Rattle.model.specs.declared.Shelf.{Shelf}
use Rattle.model.specs.declared.Store.{Store}
use Rattle.model.specs.Bytes.{byte}
use Rattle.model.specs.Fits.{StoreFits, Fits, StartFits, OperationFits}
use Rattle.model.specs.Runs.{Operation, next}
use Rattle.model.specs.Shelf.{start_taken, start}
use Rattle.model.proofs.Demands.Invariant.{next_fits, start_sound}
use Rattle.model.proofs.Laws.Places.{replicate_each}
use Rattle.words.specs.Memory.{WordsFit, Memory}
use Rattle.words.specs.Sizes.{first_row, first_phy, store_last, first_entry, shelf_words}
use Rattle.words.specs.Words.{word_at, low_set, phys_over, entries_over, store_over, eight, front_over, shelf_of, laid_over, words_of, started_words}
use Rattle.words.proofs.Low.{low_fits}
use Rattle.words.proofs.Blocks.{append_fit, row_laid}
use Rattle.words.proofs.Pieces.{map_all, all_fit, count_fits, phy_block, phy_fitting, entry_block, entry_fitting}
use Rattle.words.proofs.Lens.{all_phys, all_entries, laid_size, back, stands_fit}

-- ---- Words with a shelf laid over them are words of a shelf again

module _ (ws : List ℕ) (fit : WordsFit ws) where
  front_words : (s : Shelf) → Fits s → WordsFit (front_over ws s)
  unfolding front_over
  front_words s f =
      let changes = count_fits ws fit 1 f.changes in
      let expander3 = count_fits ws fit 2 f.expander3 in
      let ses0 = count_fits ws fit 3 f.ses0 in
      let byte_word : ℕ → ℕ = λ i. low_set 0x100 (word_at ws (4 + i)) (byte s.identifier i) in
      let bytes = map_all (λ w. w ≤ 0xFFFFFFFF) byte_word
      (λ i. low_fits 0x100 (word_at ws (4 + i)) (byte s.identifier i) refl (fit (4 + i)) (omega (arith, f.identifier i))) eight in
      let device : List ℕ = take first_row (front_over ws s) in
      append_fit device s.table (all_fit device (f.number, (changes, (expander3, (ses0, bytes))))) f.table

  store_words : (k : Store) → StoreFits k → WordsFit (store_over ws k)
  unfolding store_over entries_over
  store_words k f =
      let two : List ℕ = take 2 (store_over ws k) in
      append_fit two (entries_over ws k.entries) (all_fit two (count_fits ws fit store_last f.last, (f.count, tt)))
      (row_laid entry_block ws entry_fitting fit first_entry k.entries (all_entries k f))

  laid_words : (s : Shelf) → Fits s → WordsFit (laid_over ws s)
  unfolding laid_over phys_over
  laid_words s f =
      append_fit (front_over ws s ++ phys_over ws s.phys) (store_over ws s.store)
      (append_fit (front_over ws s) (phys_over ws s.phys) (front_words s f)
      (row_laid phy_block ws phy_fitting fit first_phy s.phys (all_phys s f)))
      (store_words s.store f.store)

pub laid_memory : (ws : List ℕ) (s : Shelf) → Memory ws → Fits s → Memory (laid_over ws s)
laid_memory ws s memory f =
    record {
      size = laid_size ws s f.table_size f.phys_size f.store.entries_size;
      words = laid_words ws memory.words s f;
    }

-- ---- One call

-- Whatever can happen: the words with the model's next shelf laid over them stand for it, and are such words again. (A reach query changes
-- neither.)
module _ (ws : List ℕ) (o : Operation) (memory : Memory ws) (fit : OperationFits o) where
  fits : Fits (next (shelf_of ws) o)
  fits = next_fits (shelf_of ws) o fit (stands_fit ws memory)

  pub next_stands : shelf_of (laid_over ws (next (shelf_of ws) o)) ≡ next (shelf_of ws) o
  next_stands = back ws (next (shelf_of ws) o) fits

  pub next_memory : Memory (laid_over ws (next (shelf_of ws) o))
  next_memory = laid_memory ws (next (shelf_of ws) o) memory fits

-- ---- A start that was not refused

pub done_words : (ws : List ℕ) (outcome : Outcome) → outcome.taken ≡ Ok tt → started_words ws outcome ≡ words_of outcome.shelf
done_words ws outcome done = rw done

-- of a table of 32 words and an identifier of 8 bytes

module _ (n : ℕ) (groups table identifier : List ℕ) (fit : StartFits table identifier) (done : start_taken n groups table ≡ Ok tt) where
  fresh_fits : Fits (start n groups table identifier).shelf
  fresh_fits = (start_sound n groups table identifier fit done).fits

  pub started_stands : shelf_of (words_of (start n groups table identifier).shelf) ≡ (start n groups table identifier).shelf
  started_stands = back (replicate shelf_words 0) (start n groups table identifier).shelf fresh_fits

  pub started_memory : Memory (words_of (start n groups table identifier).shelf)
  started_memory =
      let zeros : Memory (replicate shelf_words 0) =
      record { size = refl; words = replicate_each (λ w. w ≤ 0xFFFFFFFF) 0 shelf_words (omega arith) } in
      laid_memory (replicate shelf_words 0) (start n groups table identifier).shelf zeros fresh_fits
