-- A shelf laid over words, and then entries stored one after another, each over the words that the one before left: it is as if the shelf
-- with all of them had been laid at once. Nothing is asked but the sizes of what was laid, and that the narrow numbers of its list and of
-- the entries are narrow (`StoreLow`, `EntryLow`), which holds of the list that any words stand for. Assumes nothing.
use Prim.Native.Nat.{ℕ, zero, suc}
use native.Mathlib.Omega.{arith}
use mathlib.Core.Path.{◌≡◌, sym, ap, ◌∙◌}
use mathlib.Core.List.{List, [], ◌∷◌, ◌++◌}
use lib.ListN.{length, set, take, drop, length-set, length-take, length-drop}
use Rattle.model.specs.declared.Entry.{Entry}
use Rattle.model.specs.declared.Phy.{Phy}
use Rattle.model.specs.declared.Shelf.{Shelf}
use Rattle.model.specs.declared.Store.{Store}
use Rattle.model.specs.Shelf.{put, put_store}
use Rattle.model.specs.Store.{place, store, store_all}
use Rattle.model.proofs.Laws.Places.{All}
use Rattle.model.proofs.Plain.Counting.{originate_range}
use Rattle.words.specs.Sizes.{store_last, shelf_words}
use Rattle.words.specs.Words.{phys_of, phys_over, store_over, front_over, shelf_of, laid_over}
use Rattle.words.proofs.Laying.{laid_same, laid_store}
use Rattle.words.proofs.Lens.{StoreLow, store_back, store_anew, store_from, before_from, laid_size, stands_low}
use Rattle.words.proofs.Pieces.{EntryLow}
use Rattle.words.proofs.Reading.{phys_size}

-- another entry keeps the narrow numbers of a list narrow
set_all : {A : Type 0} (P : A → Type 0) (xs : List A) (i : ℕ) (x : A) → All P xs → P x → All P (set xs i x)
set_all P [] i x all here = tt
set_all P (y ∷ xs) zero x all here = (here, all.1)
set_all P (y ∷ xs) (suc i) x all here = (all.0, set_all P xs i x all.1 here)

store_keeps_low : (k : Store) (e : Entry) → StoreLow k → EntryLow e → StoreLow (store k e)
unfolding store
store_keeps_low k e low here =
    record {
      last = (originate_range k.last low.last).1;
      entries_size = length-set k.entries (place k) e ∙ low.entries_size;
      entries = set_all EntryLow k.entries (place k) e low.entries here;
    }

stores_keep_low : (k : Store) (es : List Entry) → StoreLow k → All EntryLow es → StoreLow (store_all k es)
stores_keep_low k [] low all = low
stores_keep_low k (e ∷ es) low all = stores_keep_low (store k e) es (store_keeps_low k e low all.0) all.1

-- `now` is what is left of the words `ws` where the shelf `s` is laid over them
pub record Laid (ws : List ℕ) (s : Shelf) (now : List ℕ) : Type 0 where
  pub size : length ws ≡ shelf_words
  pub table_size : length s.table ≡ 32
  pub phys_size : length s.phys ≡ 24
  pub store : StoreLow s.store
  pub words : now ≡ laid_over ws s

-- ---- What begins: nothing was done, or a phy was put

module _ (ws : List ℕ) (long : length ws ≡ shelf_words) where
  pub laid_nothing : Laid ws (shelf_of ws) ws
  unfolding shelf_of
  laid_nothing =
      record {
        size = long;
        table_size = simp (length-take, length-drop) (omega arith);
        phys_size = phys_size ws;
        store = stands_low ws;
        words = sym (laid_same ws long);
      }

  pub laid_phy : (p : ℕ) (x : Phy) (changes : ℕ) {now : List ℕ} → now ≡ laid_over ws (put (shelf_of ws) p x changes)
      → Laid ws (put (shelf_of ws) p x changes) now
  unfolding shelf_of
  laid_phy p x changes e =
      record {
        size = long;
        table_size = simp (length-take, length-drop) (omega arith);
        phys_size = length-set (phys_of ws) p x ∙ phys_size ws;
        store = stands_low ws;
        words = e;
      }

-- ---- What goes on: another list is laid over what is there

module _ (ws : List ℕ) (s : Shelf) {now : List ℕ} (laid : Laid ws s now) where
  behind : drop store_last now ≡ store_over ws s.store
  behind = rw laid.words (store_from ws s laid.table_size laid.phys_size)

  long_now : length now ≡ shelf_words
  long_now = rw laid.words (laid_size ws s laid.table_size laid.phys_size laid.store.entries_size)

  -- the list that the words now stand for
  pub store_now : (shelf_of now).store ≡ s.store
  unfolding shelf_of
  store_now = store_back ws now s.store laid.store behind

  pub list_words : (k : Store) → length k.entries ≡ 32 → {next : List ℕ} → next ≡ laid_over now (put_store (shelf_of now) k)
      → next ≡ laid_over ws (put_store s k)
  unfolding laid_over front_over
  list_words k size e =
      let before : take store_last now ≡ front_over ws s ++ phys_over ws s.phys =
      rw laid.words (before_from ws s laid.table_size laid.phys_size) in
      e ∙ laid_store now long_now k ∙ rw (before, store_anew ws now s.store laid.store behind k size)

  -- some entries more, one after another
  pub laid_list : (es : List Entry) → All EntryLow es → {next : List ℕ}
      → next ≡ laid_over now (put_store (shelf_of now) (store_all (shelf_of now).store es))
      → Laid ws (put_store s (store_all s.store es)) next
  laid_list es here is =
      let low : StoreLow (store_all s.store es) = stores_keep_low s.store es laid.store here in
      record {
        size = laid.size;
        table_size = laid.table_size;
        phys_size = laid.phys_size;
        store = low;
        words =
            list_words (store_all s.store es) low.entries_size
            (is ∙ ap (λ k. laid_over now (put_store (shelf_of now) (store_all k es))) store_now);
      }
