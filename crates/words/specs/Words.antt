-- The shelf in words of 32 bits that its caller keeps, which C sees as `struct smp_shelf` of firmware/kinubarsil.h. Two definitions: the
-- shelf that such words stand for, and the words with another shelf laid over them. How many words there are is in `Sizes`.
--
-- A number that is narrower than 32 bits stands in the low bits of its word; the bits above are not read, and stay.
use Rattle.std.specs.Prelude.{ℕ, zero, suc, ◌+◌, ◌*◌, ◌/◌, ◌%◌, cond, List, [], ◌∷◌, ◌++◌, map, eqb, get_or, take, drop, replicate, Ok, Err}
use Rattle.model.specs.declared.Entry.{Entry}
use Rattle.model.specs.declared.Monitor.{Monitor}
use Rattle.model.specs.declared.Outcome.{Outcome}
use Rattle.model.specs.declared.Phy.{Phy}
use Rattle.model.specs.declared.Shelf.{Shelf}
use Rattle.model.specs.declared.Store.{Store}
use Rattle.model.specs.Answers.{Taken}
use Rattle.model.specs.Bytes.{byte}
use Rattle.model.specs.Reply.{error_at, monitor_at}
use Rattle.model.specs.Shelf.{monitor, entry_of}
use Rattle.words.specs.Sizes.{monitor_words, phy_monitors, phy_counts, phy_words, entry_words}
use Rattle.words.specs.Sizes.{first_row, first_phy, store_last, store_count, first_entry, shelf_words}

abbrev pub word_at : List ℕ → ℕ → ℕ
word_at ws i = get_or ws i 0

-- A word with another number, below `size`, in its low bits: 1 bit where `size` is 2, 8 where it is 0x100, 16 where it is 0x10000.
abbrev pub low_set : ℕ → ℕ → ℕ → ℕ
low_set size word n = word / size * size + n

-- ---- A row of blocks: pieces that have as many words each, one behind another

-- what n blocks of `size` words stand for, from a place on, where `of` says what one stands for
abbrev pub row_of : {A : Type 0} → ℕ → (List ℕ → ℕ → A) → ℕ → List ℕ → ℕ → List A
row_of size of zero ws at = []
row_of size of (suc n) ws at = of ws at ∷ row_of size of n ws (at + size)

-- the words of such blocks, each laid `over` those that stand at its place
abbrev pub row_over : {A : Type 0} → ℕ → (List ℕ → ℕ → A → List ℕ) → List ℕ → ℕ → List A → List ℕ
row_over size over ws at [] = []
row_over size over ws at (x ∷ xs) = over ws at x ++ row_over size over ws (at + size) xs

-- ---- A monitor, from a place on

abbrev pub monitor_of : List ℕ → ℕ → Monitor
monitor_of ws at = monitor (word_at ws at % 0x100) (word_at ws (at + 1)) (word_at ws (at + 2))

abbrev pub monitor_over : List ℕ → ℕ → Monitor → List ℕ
monitor_over ws at m = low_set 0x100 (word_at ws at) m.source ∷ m.value ∷ m.threshold ∷ []

-- the four of a phy, and their places
abbrev pub monitors_of : List ℕ → ℕ → List Monitor
monitors_of ws at = row_of monitor_words monitor_of 4 ws at

abbrev pub four : List ℕ
four = 0 ∷ 1 ∷ 2 ∷ 3 ∷ []

abbrev pub monitors_over : List ℕ → ℕ → Phy → List ℕ
monitors_over ws at x = row_over monitor_words monitor_over ws at (map (monitor_at x) four)

-- ---- A phy

unfoldable pub phy_of : List ℕ → ℕ → Phy
phy_of ws at =
    record {
      group = word_at ws at;
      enabled = eqb (word_at ws (at + 1) % 2) 1;
      errors = word_at ws (at + 2) ∷ word_at ws (at + 3) ∷ word_at ws (at + 4) ∷ word_at ws (at + 5) ∷ [];
      monitors = monitors_of ws (at + phy_monitors);
      change0 = word_at ws (at + phy_counts) % 0x10000;
      expander1 = word_at ws (at + phy_counts + 1) % 0x10000;
      expander2 = word_at ws (at + phy_counts + 2) % 0x10000;
    }

-- the words before its monitors, and those behind them
abbrev pub head_over : List ℕ → ℕ → Phy → List ℕ
head_over ws at x =
    x.group ∷ low_set 2 (word_at ws (at + 1)) (cond x.enabled 1 0) ∷ error_at x 0 ∷ error_at x 1 ∷ error_at x 2 ∷ error_at x 3 ∷ []

abbrev pub counts_over : List ℕ → ℕ → Phy → List ℕ
counts_over ws at x =
    low_set 0x10000 (word_at ws at) x.change0
    ∷ low_set 0x10000 (word_at ws (at + 1)) x.expander1
    ∷ low_set 0x10000 (word_at ws (at + 2)) x.expander2
    ∷ []

unfoldable pub phy_over : List ℕ → ℕ → Phy → List ℕ
phy_over ws at x = head_over ws at x ++ monitors_over ws (at + phy_monitors) x ++ counts_over ws (at + phy_counts) x

-- the 24 of a shelf
unfoldable pub phys_of : List ℕ → List Phy
phys_of ws = row_of phy_words phy_of 24 ws first_phy

unfoldable pub phys_over : List ℕ → List Phy → List ℕ
phys_over ws xs = row_over phy_words phy_over ws first_phy xs

-- ---- The list of stored peak events (#101)

-- an entry, from a place on: its phy, then its monitor
abbrev pub entry_from : List ℕ → ℕ → Entry
entry_from ws at = entry_of (word_at ws at % 0x100) (monitor_of ws (at + 1))

abbrev pub entry_over : List ℕ → ℕ → Entry → List ℕ
entry_over ws at e = low_set 0x100 (word_at ws at) e.phy ∷ monitor_over ws (at + 1) e.monitor

-- the 32 of the list, each at the place where it was stored
unfoldable pub entries_from : List ℕ → List Entry
entries_from ws = row_of entry_words entry_from 32 ws first_entry

unfoldable pub entries_over : List ℕ → List Entry → List ℕ
entries_over ws es = row_over entry_words entry_over ws first_entry es

-- the last index, how many stores there were, and the entries
unfoldable pub store_of : List ℕ → Store
store_of ws = record { last = word_at ws store_last % 0x10000; count = word_at ws store_count; entries = entries_from ws }

unfoldable pub store_over : List ℕ → Store → List ℕ
store_over ws k = low_set 0x10000 (word_at ws store_last) k.last ∷ k.count ∷ entries_over ws k.entries

-- ---- The shelf: the words that are device wide, then 32 rows, then 24 phys, then the list of stored peak events

-- the places of the identifier's bytes
abbrev pub eight : List ℕ
eight = 0 ∷ 1 ∷ 2 ∷ 3 ∷ 4 ∷ 5 ∷ 6 ∷ 7 ∷ []

unfoldable pub shelf_of : List ℕ → Shelf
shelf_of ws =
    record {
      number = word_at ws 0;
      phys = phys_of ws;
      table = take 32 (drop first_row ws);
      identifier = map (λ i. word_at ws (4 + i) % 0x100) eight;
      changes = word_at ws 1 % 0x10000;
      expander3 = word_at ws 2 % 0x10000;
      ses0 = word_at ws 3 % 0x10000;
      store = store_of ws;
    }

-- the words before the phys
unfoldable pub front_over : List ℕ → Shelf → List ℕ
front_over ws s =
    (s.number
    ∷ low_set 0x10000 (word_at ws 1) s.changes
    ∷ low_set 0x10000 (word_at ws 2) s.expander3
    ∷ low_set 0x10000 (word_at ws 3) s.ses0
    ∷ map (λ i. low_set 0x100 (word_at ws (4 + i)) (byte s.identifier i)) eight)
    ++ s.table

unfoldable pub laid_over : List ℕ → Shelf → List ℕ
laid_over ws s = front_over ws s ++ phys_over ws s.phys ++ store_over ws s.store

-- the words of a shelf by itself: every bit above a number is 0
abbrev pub words_of : Shelf → List ℕ
words_of s = laid_over (replicate shelf_words 0) s

abbrev pub started_as : List ℕ → Taken → Shelf → List ℕ
started_as ws (Ok tt) s = words_of s
started_as ws (Err house) s = ws

-- The words after a start: those of the fresh shelf; or, where it is refused, as they were: "A refused start gives no device."
abbrev pub started_words : List ℕ → Outcome → List ℕ
started_words ws outcome = started_as ws outcome.taken outcome.shelf
