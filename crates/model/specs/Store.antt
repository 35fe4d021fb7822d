-- #101 "List of stored peak events." "The server keeps the last 32 stored descriptors." An entry has a phy, and one of its monitors
-- (source, value and threshold) as it stood when it was stored; it does not follow later changes.
--
-- How entries are kept, and how one is stored; then what readers see of that, which is two definitions, `entries` and `indexes`; then what
-- a request for the list is given.
use Rattle.std.specs.Prelude.{ℕ, zero, suc, ◌+◌, ◌-◌, ◌%◌, min, cond, List, [], ◌∷◌, ◌++◌, map, ltb, eqb, get_or, set}
use Rattle.model.specs.declared.Effect.{Effect}
use Rattle.model.specs.declared.Entry.{Entry}
use Rattle.model.specs.declared.Shelf.{Shelf}
use Rattle.model.specs.declared.Store.{Store}
use Rattle.model.specs.Counting.{originate, originate_if, stored_ones}
use Rattle.model.specs.Shelf.{entry_of, no_entry, put, put_store}
use Rattle.model.specs.Tests.{one_of, join_below}

-- ---- Storing

abbrev pub entry_at : Store → ℕ → Entry
entry_at k i = get_or k.entries i no_entry

-- the place that the next store writes
abbrev pub place : Store → ℕ
place k = k.count % 32

-- How many stores there were, counted on from 32 after 63: so `place` goes round, and the number of entries stops at 32.
abbrev pub count_on : ℕ → ℕ
count_on count = cond (ltb count 32) (count + 1) (32 + (count + 1) % 32)

-- One entry, in place. "Indexes run from 0001h and go from FFFFh to 0001h", as a count that is originated.
unfoldable pub store : Store → Entry → Store
store k e =
    record {
      last = originate k.last;
      count = count_on k.count;
      entries = set k.entries (place k) e;
    }

-- one after another
abbrev pub store_all : Store → List Entry → Store
store_all k [] = k
store_all k (e ∷ es) = store_all (store k e) es

-- what an effect stores of phy p, in monitor order
abbrev pub entries_of : ℕ → Effect → List Entry
entries_of p e = map (entry_of p) (stored_ones e.stored)

-- What is done to phy p, carried out on the shelf. "Change also moves the change count the same way."
abbrev pub carried_out : Shelf → ℕ → Effect → Shelf
carried_out s p e =
    put_store (put s p e.phy (originate_if e.change s.changes)) (store_all s.store (entries_of p e))

-- ---- What readers see

-- how many entries are kept: none where no index was stored, and 32 at most
abbrev pub kept : Store → ℕ
kept k = cond (eqb k.last 0x0000) 0 (min k.count 32)

-- The place of the entry with this number, 0 for the oldest: they stand in a row that goes round, and end before the place of the next
-- store.
abbrev pub place_of : Store → ℕ → ℕ
place_of k i = (place k + (32 - kept k) + i) % 32

-- the entries, oldest first
unfoldable pub entries : Store → List Entry
entries k = join_below (kept k) (λ i. entry_at k (place_of k i) ∷ [])

-- the index before another
abbrev pub previous : ℕ → ℕ
previous index = cond (eqb index 0x0001) 0xFFFF (index - 1)

-- n indexes in a row, of which this is the last
unfoldable pub up_to : ℕ → ℕ → List ℕ
up_to zero last = []
up_to (suc n) last = up_to n (previous last) ++ (last ∷ [])

-- the entries' indexes, oldest first
unfoldable pub indexes : Store → List ℕ
indexes k = up_to (kept k) k.last

-- ---- What a request for the list is given

-- the lowest of some indexes; of none 0000h, which is no index
abbrev pub lowest : List ℕ → ℕ
lowest [] = 0x0000
lowest (i ∷ []) = i
lowest (i ∷ j ∷ is) = min i (lowest (j ∷ is))

-- those of them that are above another
abbrev pub above : ℕ → List ℕ → List ℕ
above start [] = []
above start (i ∷ is) = cond (ltb start i) (i ∷ above start is) (above start is)

abbrev pub or_else : ℕ → ℕ → ℕ
or_else index other = cond (eqb index 0x0000) other index

-- "A start of 0000h, or an empty store, returns index 0000h and none. A start that is not stored returns from the lowest stored index
-- above it, or, where there is none, from the lowest stored index."
unfoldable pub first_index : List ℕ → ℕ → ℕ
first_index stored start =
    cond (eqb start 0x0000) 0x0000
    (cond (one_of stored start) start
    (or_else (lowest (above start stored)) (lowest stored)))

-- "The list runs in stored order to the newest": the entries from the one with this index on. None has index 0000h.
abbrev pub since : ℕ → List ℕ → List Entry → List Entry
since first [] es = []
since first (i ∷ is) [] = []
since first (i ∷ is) (e ∷ es) = cond (eqb i first) (e ∷ es) (since first is es)

-- the first index returned, and the entries
unfoldable pub first_returned : Store → ℕ → ℕ
first_returned k start = first_index (indexes k) start

unfoldable pub returned : Store → ℕ → List Entry
returned k start = since (first_returned k start) (indexes k) (entries k)
