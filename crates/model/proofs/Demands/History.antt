-- **The list of stored peak events is the history** (#101): over any run from a start, the entries are the last 32 of all that the run's
-- accepted reports and clears stored, in order, and their indexes are their numbers, gone round as the ticket says. Assumes nothing.
use Rattle.std.specs.Prelude.{Ok, Err}
use Prim.Native.Nat.{ℕ, zero, suc, ◌+◌, ◌-◌, ◌%◌, ◌≤◌, ◌<◌, min}
use native.Mathlib.Nat.{eq-or-lt_of_le}
use native.Mathlib.Omega.{arith}
use mathlib.Core.Path.{◌≡◌, refl, sym, ap, ap₂, ◌∙◌}
use mathlib.Core.Bool.{Bool, true, false, cond}
use mathlib.Core.Logic.{⊎_elim}
use mathlib.Core.List.{List, [], ◌∷◌, ◌++◌, append-nil, append_assoc}
use lib.Dec.{ltb, eqb}
use borrow.Author.Tests.{ltb-true, ltb-false, lt-ltb, le-ltb, eqb-true, ne_eqb}
use lib.ListN.{length, get_or, drop, length-append, length-drop, length-set, get_or-append}
use lib.Seq.{drop-append-le, drop-drop, get_or-drop, get_or_at, get_or-set_same, get_or-set_other, ext_get_or}
use Rattle.model.specs.declared.Entry.{Entry}
use Rattle.model.specs.declared.House.TheVariants.{SourceGroup, ShortBuffer}
use Rattle.model.specs.declared.Fault.TheVariants.{NoFrame, Fails}
use Rattle.model.specs.declared.Request.{Request}
use Rattle.model.specs.declared.Shelf.{Shelf}
use Rattle.model.specs.declared.Store.{Store}
use Rattle.model.specs.Answers.{FunctionResult, Judged, Taken}
use Rattle.model.specs.Counting.{originate, originate_times}
use Rattle.model.specs.History.{if_taken, judged_does, request_does, stored_by_doing, stored_by, history, last_ones, index_of}
use Rattle.model.specs.Reports.{event_taken, event, link_change_taken, link_change, reduced_functionality, ses_notice}
use Rattle.model.specs.Request.{judge}
use Rattle.model.specs.Runs.{Operation, Ask, Event, LinkChange, ReducedFunctionality, Ses, QueryReach, next, after}
use Rattle.model.specs.Reply.{respond}
use Rattle.model.specs.Results.{accepted, decide}
use Rattle.model.specs.Server.{Sends, refuse, fail, least_buffer, handle, handle_judged}
use Rattle.model.specs.Shelf.{exists, phy_at, no_entry, fresh_store, fresh_shelf, no_shelf, outcome, start_taken, start}
use Rattle.model.specs.Store.{entry_at, place, store, store_all, kept, place_of, entries, previous, up_to, indexes}
use Rattle.model.specs.Tests.{given, join_below}
use Rattle.model.specs.Fits.{InARow}
use Rattle.model.specs.Writes.{Doing, Reads, WritesTo, doing, done, effect}
use Rattle.model.proofs.Demands.Fits.{store_in_a_row}
use Rattle.model.proofs.Laws.Checks.{every_outcome}
use Rattle.model.proofs.Laws.Tests.{cond_by}
use Rattle.model.proofs.Plain.Counting.{originate_adds, originate_wraps, originate_range}
use Rattle.model.proofs.Plain.Writes.{change_stores}
use Rattle.model.proofs.Plain.Store.{store_append, kept_few, entries_length, entries_at, Index, up_to_length}

-- ---- One operation stores its entries, and no others.

done_stores : (s : Shelf) (does : Doing) → (done s does).store ≡ store_all s.store (stored_by_doing s does)
done_stores s Reads = refl
done_stores s (WritesTo p f) = refl

taken_stores : (taken : Taken) (old new : Shelf) (es : List Entry) → new.store ≡ store_all old.store es
    → (outcome taken old new).shelf.store ≡ store_all old.store (if_taken taken es)
taken_stores (Ok done) old new es e = e
taken_stores (Err house) old new es e = refl

-- a request does what it is said to do
request_done : (s : Shelf) (g : ℕ) (frame : List ℕ) (room : ℕ) → (handle s g frame room).shelf ≡ done s (request_does s g frame room)
unfolding handle effect
request_done s g frame room = go (ltb 31 g) (ltb room least_buffer) (judge frame)
  where
    asks : (b : Bool) (request : Request) (result : FunctionResult)
        → (cond b (record { reply = Sends (respond s g request); shelf = done s (doing frame request) }) (fail s frame result)).shelf
        ≡ done s (cond b (doing frame request) Reads)
    asks true request result = refl
    asks false request result = refl

    go : (a b : Bool) (judged : Judged)
        → (given a (refuse s SourceGroup) (given b (refuse s ShortBuffer) (handle_judged s g frame judged))).shelf
        ≡ done s (given a Reads (given b Reads (judged_does s g frame judged)))
    go true b judged = refl
    go false true judged = refl
    go false false (Err (NoFrame house)) = refl
    go false false (Err (Fails result)) = refl
    go false false (Ok request) =
        asks (accepted (decide s g frame request)) request (decide s g frame request)

pub next_stores : (s : Shelf) (operation : Operation) → (next s operation).store ≡ store_all s.store (stored_by s operation)
unfolding next stored_by event link_change reduced_functionality ses_notice
next_stores s (Ask g frame out) =
    ap (λ t. t.store) (request_done s g frame (length out)) ∙ done_stores s (request_does s g frame (length out))
next_stores s (Event p source amount) = taken_stores (event_taken (exists s p) source amount) s _ _ refl
next_stores s (LinkChange p) =
    every_outcome (λ t. t.store ≡ s.store) (link_change_taken (exists s p)) s _ refl
    (λ taken. change_stores s.store p (phy_at s p).enabled (phy_at s p))
next_stores s ReducedFunctionality = refl
next_stores s Ses = refl
next_stores s (QueryReach g) = refl

-- so a run stores its history
pub after_stores : (s : Shelf) (operations : List Operation) → (after s operations).store ≡ store_all s.store (history s operations)
unfolding after history
after_stores s [] = refl
after_stores s (operation ∷ operations) =
    after_stores (next s operation) operations
    ∙ ap (λ k. store_all k (history (next s operation) operations)) (next_stores s operation)
    ∙ sym (store_append s.store (stored_by s operation) (history (next s operation) operations))

-- ---- What storing leaves: the last 32

-- the last n of the last n and some more
last_ones_lem : (n : ℕ) (es fs : List Entry) → last_ones n (last_ones n es ++ fs) ≡ last_ones n (es ++ fs)
last_ones_lem n es fs =
    let a : ℕ = length es - n in
    let joined : drop a es ++ fs ≡ drop a (es ++ fs) = sym (drop-append-le a es fs (omega arith)) in
    let size : length (es ++ fs) ≡ length es + length fs = length-append es fs in
    let less : length (drop a (es ++ fs)) ≡ length (es ++ fs) - a = length-drop a (es ++ fs) in
    rw (joined, drop-drop) (ap (λ m. drop m (es ++ fs)) (let z : a + (length (drop a (es ++ fs)) - n) ≡ length (es ++ fs) - n = omega arith in z))

few_ones : (n : ℕ) (es : List Entry) → length es ≤ n → last_ones n es ≡ es
few_ones n es few = ap (λ m. drop m es) (let z : length es - n ≡ 0 = omega arith in z)

-- where indexes are in a row, as many are kept as were stored, up to 32
row_kept : (k : Store) → InARow k → kept k ≡ min k.count 32
row_kept k row = cond_by (λ n. n ≡ min k.count 32) (eqb k.last 0x0000) _ _ (λ e. none (ltb k.count 32) refl (eqb-true k.last 0x0000 e)) (λ e. refl)
  where
    none : (b : Bool) → ltb k.count 32 ≡ b → k.last ≡ 0x0000 → 0 ≡ min k.count 32
    none true h e = omega (arith, row.few (ltb-true k.count 32 h))
    none false h e = absurd (omega (arith, row.full (ltb-false k.count 32 h)))

count_few : (k : Store) (e : Entry) → k.count < 32 → (store k e).count ≡ k.count + 1
unfolding store
count_few k e few = rw (lt-ltb k.count 32 few)

count_full : (k : Store) (e : Entry) → 32 ≤ k.count → (store k e).count ≡ 32 + (k.count + 1) % 32
unfolding store
count_full k e full = rw (le-ltb k.count 32 full)

-- the entry at a place of the row that goes round, once one more is stored
module _ (k : Store) (e : Entry) (size : length k.entries ≡ 32) where
  stored_here : (q : ℕ) → q ≡ place k → entry_at (store k e) q ≡ e
  unfolding store
  stored_here q same = rw same (get_or-set_same k.entries (place k) e no_entry (omega arith))

  stored_there : (q : ℕ) → (q ≡ place k → ⊥) → entry_at (store k e) q ≡ entry_at k q
  unfolding store
  stored_there q apart = get_or-set_other k.entries (place k) q e no_entry apart

-- One entry more, while there are fewer than 32: it stands behind the others.
module _ (k : Store) (e : Entry) (size : length k.entries ≡ 32) (before : kept k ≡ k.count) (after : kept (store k e) ≡ k.count + 1)
    (few : k.count < 32) where
  few_entries : entries (store k e) ≡ entries k ++ (e ∷ [])
  few_entries =
      ext_get_or no_entry (entries (store k e)) (entries k ++ (e ∷ []))
      (simp length-append (omega (arith, entries_length (store k e), entries_length k)))
      (λ i h. at i (rw (entries_length (store k e), after) at h))
    where
      at : (i : ℕ) → i < k.count + 1 → get_or (entries (store k e)) i no_entry ≡ get_or (entries k ++ (e ∷ [])) i no_entry
      at i h = entries_at (store k e) i (rw after h) ∙ go (ltb i k.count) refl
        where
          here : place_of (store k e) i ≡ i
          here = rw (after, count_few k e few) (omega arith)

          go : (b : Bool) → ltb i k.count ≡ b → entry_at (store k e) (place_of (store k e) i) ≡ get_or (entries k ++ (e ∷ [])) i no_entry
          go true l =
              let below : i < k.count = ltb-true i k.count l in
              let old : place_of k i ≡ i = rw before (omega arith) in
              rw here (stored_there k e size i (λ same. omega arith))
              ∙ ap (entry_at k) (sym old)
              ∙ sym (entries_at k i (rw before below))
              ∙ sym (get_or-append (entries k) (e ∷ []) no_entry i (omega (arith, entries_length k)))
          go false l =
              let last : i ≡ k.count = omega (arith, ltb-false i k.count l) in
              rw here (stored_here k e size i (omega arith))
              ∙ sym (get_or_at (entries k) e [] no_entry i (omega (arith, entries_length k)))

-- One entry more, where there are 32: the oldest goes.
module _ (k : Store) (e : Entry) (size : length k.entries ≡ 32) (before : kept k ≡ 32) (after : kept (store k e) ≡ 32)
    (full : 32 ≤ k.count) where
  full_entries : entries (store k e) ≡ drop 1 (entries k ++ (e ∷ []))
  full_entries =
      ext_get_or no_entry (entries (store k e)) (drop 1 (entries k ++ (e ∷ [])))
      (simp (length-drop, length-append) (omega (arith, entries_length (store k e), entries_length k)))
      (λ i h. at i (rw (entries_length (store k e), after) at h))
    where
      at : (i : ℕ) → i < 32 → get_or (entries (store k e)) i no_entry ≡ get_or (drop 1 (entries k ++ (e ∷ []))) i no_entry
      at i h =
          entries_at (store k e) i (rw after h) ∙ go (ltb (1 + i) 32) refl ∙ sym (get_or-drop 1 (entries k ++ (e ∷ [])) i no_entry)
        where
          here : place_of (store k e) i ≡ (k.count + 1 + i) % 32
          here = rw (after, count_full k e full) (omega arith)

          go : (b : Bool) → ltb (1 + i) 32 ≡ b → entry_at (store k e) (place_of (store k e) i) ≡ get_or (entries k ++ (e ∷ [])) (1 + i) no_entry
          go true l =
              let below : 1 + i < 32 = ltb-true (1 + i) 32 l in
              let old : place_of k (1 + i) ≡ (k.count + 1 + i) % 32 = rw before (omega arith) in
              rw here (stored_there k e size ((k.count + 1 + i) % 32) (λ same. omega arith))
              ∙ ap (entry_at k) (sym old)
              ∙ sym (entries_at k (1 + i) (rw before below))
              ∙ sym (get_or-append (entries k) (e ∷ []) no_entry (1 + i) (omega (arith, entries_length k)))
          go false l =
              let last : i ≡ 31 = omega (arith, ltb-false (1 + i) 32 l) in
              rw here (stored_here k e size ((k.count + 1 + i) % 32) (omega arith))
              ∙ sym (get_or_at (entries k) e [] no_entry (1 + i) (omega (arith, entries_length k)))

-- what is asked of a store: 32 places, a last index of 16 bits, indexes in a row
pub record Kept (k : Store) : Type 0 where
  pub size : length k.entries ≡ 32
  pub last : k.last ≤ 0xFFFF
  pub row : InARow k

keeps : (k : Store) (e : Entry) → Kept k → Kept (store k e)
unfolding store
keeps k e h =
    record {
      size = length-set k.entries (place k) e ∙ h.size;
      last = (originate_range k.last h.last).1;
      row = store_in_a_row k e h.last h.row;
    }

entries_store : (k : Store) (e : Entry) → Kept k → entries (store k e) ≡ last_ones 32 (entries k ++ (e ∷ []))
entries_store k e h = go (ltb k.count 32) refl
  where
    before : kept k ≡ min k.count 32
    before = row_kept k h.row

    after : kept (store k e) ≡ min (store k e).count 32
    after = row_kept (store k e) (keeps k e h).row

    size : length (entries k ++ (e ∷ [])) ≡ kept k + 1
    size = length-append (entries k) (e ∷ []) ∙ ap (λ n. n + 1) (entries_length k)

    go : (b : Bool) → ltb k.count 32 ≡ b → entries (store k e) ≡ last_ones 32 (entries k ++ (e ∷ []))
    go true l =
        let few : k.count < 32 = ltb-true k.count 32 l in
        few_entries k e h.size (omega (arith, before)) (omega (arith, after, count_few k e few)) few
        ∙ sym (few_ones 32 (entries k ++ (e ∷ [])) (omega (arith, before, size)))
    go false l =
        let full : 32 ≤ k.count = ltb-false k.count 32 l in
        full_entries k e h.size (omega (arith, before)) (omega (arith, after, count_full k e full)) full
        ∙ ap (λ n. drop n (entries k ++ (e ∷ []))) (let z : 1 ≡ length (entries k ++ (e ∷ [])) - 32 = omega (arith, before, size) in z)

-- many entries more
pub entries_all : (k : Store) (es : List Entry) → Kept k → entries (store_all k es) ≡ last_ones 32 (entries k ++ es)
entries_all k [] h =
    sym (ap (last_ones 32) (append-nil (entries k)) ∙ few_ones 32 (entries k) (omega (arith, entries_length k, kept_few k)))
entries_all k (e ∷ es) h =
    entries_all (store k e) es (keeps k e h)
    ∙ ap (λ first. last_ones 32 (first ++ es)) (entries_store k e h)
    ∙ last_ones_lem 32 (entries k ++ (e ∷ [])) es
    ∙ ap (last_ones 32) (append_assoc (entries k) (e ∷ []) es)

keeps_all : (k : Store) (es : List Entry) → Kept k → Kept (store_all k es)
keeps_all k [] h = h
keeps_all k (e ∷ es) h = keeps_all (store k e) es (keeps k e h)

-- ---- Indexes: "run from 0001h and go from FFFFh to 0001h"

last_all : (k : Store) (es : List Entry) → (store_all k es).last ≡ originate_times (length es) k.last
unfolding store
last_all k [] = refl
last_all k (e ∷ es) = last_all (store k e) es

-- one more is the one behind it
index_next : (n count : ℕ) → originate_times (suc n) count ≡ originate (originate_times n count)
index_next zero count = refl
index_next (suc n) count = index_next n (originate count)

-- every entry's index is 0001h to FFFFh
index_some : (n : ℕ) → Index (index_of (suc n))
index_some n = let fits = index_fits n in rw (index_next n 0x0000) (originate_range (index_of n) fits)
  where
    index_fits : (n : ℕ) → index_of n ≤ 0xFFFF
    index_fits zero = omega arith
    index_fits (suc n) = rw (index_next n 0x0000) (originate_range (index_of n) (index_fits n)).1

-- "gone round": number n + 1 has index n + 1, less 65,535 as often as it goes
pub index_round : (n : ℕ) → index_of (suc n) ≡ n % 0xFFFF + 1
index_round zero = originate_adds 0x0000 (omega arith)
index_round (suc n) = index_next (suc n) 0x0000 ∙ ap originate (index_round n) ∙ go (ltb (n % 0xFFFF + 1) 0xFFFF) refl
  where
    go : (b : Bool) → ltb (n % 0xFFFF + 1) 0xFFFF ≡ b → originate (n % 0xFFFF + 1) ≡ suc n % 0xFFFF + 1
    go true l =
        let below = ltb-true (n % 0xFFFF + 1) 0xFFFF l in
        originate_adds (n % 0xFFFF + 1) below ∙ (let z : n % 0xFFFF + 1 + 1 ≡ suc n % 0xFFFF + 1 = omega arith in z)
    go false l =
        let last : n % 0xFFFF + 1 ≡ 0xFFFF = omega (arith, ltb-false (n % 0xFFFF + 1) 0xFFFF l) in
        ap originate last ∙ originate_wraps ∙ (let z : 0x0001 ≡ suc n % 0xFFFF + 1 = omega arith in z)

previous_originate : (i : ℕ) → Index i → previous (originate i) ≡ i
previous_originate i (low, high) = ⊎_elim wraps adds (eq-or-lt_of_le high)
  where
    wraps : i ≡ 0xFFFF → previous (originate i) ≡ i
    wraps e = rw (e, originate_wraps)

    adds : i < 0xFFFF → previous (originate i) ≡ i
    adds l = rw (originate_adds i l, ne_eqb (i + 1) 0x0001 (λ e. omega arith)) (omega arith)

-- index i of n in a row, up to that of number t, is that of number t - j, where i + 1 + j are all
up_to_numbers : (n t i j : ℕ) → n ≤ t → i + 1 + j ≡ n → get_or (up_to n (index_of t)) i 0x0000 ≡ index_of (t - j)
unfolding up_to
up_to_numbers zero t i j h all = absurd (omega arith)
up_to_numbers (suc n) zero i j h all = absurd (omega arith)
up_to_numbers (suc n) (suc t) i zero h all =
    get_or_at (up_to n (previous (index_of (suc t)))) (index_of (suc t)) [] 0x0000 i (omega (arith, up_to_length n (previous (index_of (suc t)))))
    ∙ ap index_of (let z : suc t ≡ suc t - 0 = omega arith in z)
up_to_numbers (suc n) (suc zero) i (suc j) h all = absurd (omega arith)
up_to_numbers (suc n) (suc (suc t)) i (suc j) h all =
    get_or-append (up_to n (previous (index_of (suc (suc t))))) (index_of (suc (suc t)) ∷ []) 0x0000 i
    (omega (arith, up_to_length n (previous (index_of (suc (suc t))))))
    ∙ ap (λ last. get_or (up_to n last) i 0x0000) (ap previous (index_next (suc t) 0x0000) ∙ previous_originate (index_of (suc t)) (index_some t))
    ∙ up_to_numbers n (suc t) i j (omega arith) (omega arith)
    ∙ ap index_of (let z : suc t - j ≡ suc (suc t) - suc j = omega arith in z)

-- ---- The list is the history

-- of these entries, stored one after another
pub record IsHistory (k : Store) (all : List Entry) : Type 0 where
  -- "The server keeps the last 32 stored descriptors."
  pub last_32 : entries k ≡ last_ones 32 all
  -- the last index is their number, gone round, and each entry has that of its own
  pub last_index : k.last ≡ index_of (length all)
  pub each_index : (i : ℕ) → i < length (entries k) → get_or (indexes k) i 0x0000 ≡ index_of (length all - length (entries k) + 1 + i)

fresh_kept : Kept fresh_store
fresh_kept = record { size = refl; last = omega arith; row = record { few = λ l. refl; full = λ l. absurd (omega arith) } }

fresh_entries : entries fresh_store ≡ []
unfolding entries join_below
fresh_entries = refl

stored_history : (all : List Entry) → IsHistory (store_all fresh_store all) all
unfolding indexes
stored_history all =
    let k : Store = store_all fresh_store all in
    let some : entries k ≡ last_ones 32 all = entries_all fresh_store all fresh_kept ∙ ap (λ es. last_ones 32 (es ++ all)) fresh_entries in
    let last : k.last ≡ index_of (length all) = last_all fresh_store all in
    let size : length (entries k) ≡ length all - (length all - 32) = ap length some ∙ length-drop (length all - 32) all in
    record {
      last_32 = some;
      last_index = last;
      each_index = λ i h.
          ap₂ (λ n l. get_or (up_to n l) i 0x0000) (sym (entries_length k)) last
          ∙ up_to_numbers (length (entries k)) (length all) i (length (entries k) - 1 - i) (omega arith) (omega arith)
          ∙ ap index_of
          (let z : length all - (length (entries k) - 1 - i) ≡ length all - length (entries k) + 1 + i = omega arith in z);
    }

start_store : (n : ℕ) (groups table identifier : List ℕ) → (start n groups table identifier).shelf.store ≡ fresh_store
unfolding start fresh_shelf no_shelf
start_store n groups table identifier =
    every_outcome (λ t. t.store ≡ fresh_store) (start_taken n groups table) no_shelf _ refl (λ done. refl)

-- Over any run from a start (also one that is refused, which stores nothing).
pub list_is_history : (n : ℕ) (groups table identifier : List ℕ) (operations : List Operation)
    → let s : Shelf = (start n groups table identifier).shelf in
    IsHistory (after s operations).store (history s operations)
list_is_history n groups table identifier operations =
    let s : Shelf = (start n groups table identifier).shelf in
    let all : List Entry = history s operations in
    rw (after_stores s operations, start_store n groups table identifier) (stored_history all)
