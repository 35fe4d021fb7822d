-- The list of stored peak events (#101), in plain logic: how many entries there are, and that their indexes run in a row. Assumes nothing.
use Prim.Native.Nat.{ℕ, zero, suc, ◌+◌, ◌-◌, ◌≤◌, ◌<◌, zero-le}
use native.Mathlib.Omega.{arith}
use mathlib.Core.Path.{◌≡◌, refl, sym, ap, ◌∙◌}
use mathlib.Core.Bool.{Bool, cond}
use mathlib.Core.List.{List, [], ◌∷◌, ◌++◌, map}
use borrow.Author.Tests.{ltb-true, ltb-false, leb-true, leb-false, eqb-true, eqb-false}
use lib.Dec.{leb, ltb, eqb}
use lib.ListN.{length, get_or, length-append, get_or-append}
use lib.Seq.{get_or_at}
use Rattle.model.specs.declared.Entry.{Entry}
use Rattle.model.specs.declared.Phy.{Phy}
use Rattle.model.specs.declared.Store.{Store}
use Rattle.model.specs.Counting.{stores_none, counted, crossings, crossed, event_on}
use Rattle.model.specs.Shelf.{entry_of, no_entry}
use Rattle.model.specs.Store.{entry_at, store, store_all, entries_of, kept, place_of, entries, previous, up_to}
use Rattle.model.proofs.Laws.Join.{join_length, join_at}
use Rattle.model.proofs.Laws.Places.{All}
use Rattle.model.proofs.Laws.Tests.{cond_by, cond_both}
use Rattle.model.proofs.Plain.Counting.{stored_marked}

-- ---- storing, one after another

pub store_each : (P : Store → Type 0) (Q : Entry → Type 0) → ((k : Store) (e : Entry) → Q e → P k → P (store k e))
    → (k : Store) (es : List Entry) → All Q es → P k → P (store_all k es)
store_each P Q one k [] all holds = holds
store_each P Q one k (e ∷ es) all holds = store_each P Q one (store k e) es all.1 (one k e all.0 holds)

pub store_append : (k : Store) (es fs : List Entry) → store_all k (es ++ fs) ≡ store_all (store_all k es) fs
store_append k [] fs = refl
store_append k (e ∷ es) fs = store_append (store k e) es fs

-- what stores nothing of a phy
pub stores_none_lem : (k : Store) (p : ℕ) (after : Phy) (change : Bool) → store_all k (entries_of p (stores_none after change)) ≡ k
stores_none_lem k p after change = refl

-- what an event report stores of a phy: the monitors that crossed
pub event_stores : (k : Store) (p source amount : ℕ) (x : Phy)
    → store_all k (entries_of p (event_on source amount x)) ≡ store_all k (map (entry_of p) (crossed source amount x.monitors))
unfolding event_on
event_stores k p source amount x =
    ap (λ ms. store_all k (map (entry_of p) ms))
    (stored_marked (crossings source amount x.monitors) (map (counted source amount) x.monitors))

-- ---- how many there are: "the last 32"

pub kept_few : (k : Store) → kept k ≤ 32
kept_few k = cond_both (λ n. n ≤ 32) (eqb k.last 0x0000) _ _ zero-le (omega arith)

pub entries_length : (k : Store) → length (entries k) ≡ kept k
unfolding entries
entries_length k = join_length (kept k) (λ i. entry_at k (place_of k i))

pub entries_at : (k : Store) (i : ℕ) → i < kept k → get_or (entries k) i no_entry ≡ entry_at k (place_of k i)
unfolding entries
entries_at k i h = join_at (kept k) (λ j. entry_at k (place_of k j)) no_entry i h

-- ---- indexes in a row: "Indexes run from 0001h and go from FFFFh to 0001h"

-- the index that is j before another
abbrev pub back : ℕ → ℕ → ℕ
back last j = cond (ltb j last) (last - j) (last + 0xFFFF - j)

-- how far before another an index is
abbrev pub far : ℕ → ℕ → ℕ
far last start = cond (leb start last) (last - start) (last + 0xFFFF - start)

-- an index: 0001h to FFFFh
abbrev pub Index : ℕ → Type 0
Index i = (1 ≤ i) × (i ≤ 0xFFFF)

-- j before last is i, in numbers
pub back_by : (last j : ℕ) (P : ℕ → Type 0) → (j < last → P (last - j)) → (last ≤ j → P (last + 0xFFFF - j)) → P (back last j)
back_by last j P near over = cond_by P (ltb j last) _ _ (λ e. near (ltb-true j last e)) (λ e. over (ltb-false j last e))

pub far_by : (last start : ℕ) (P : ℕ → Type 0) → (start ≤ last → P (last - start)) → (last < start → P (last + 0xFFFF - start)) → P (far last start)
far_by last start P near over = cond_by P (leb start last) _ _ (λ e. near (leb-true start last e)) (λ e. over (leb-false start last e))

previous_by : (last : ℕ) (P : ℕ → Type 0) → (last ≡ 1 → P 0xFFFF) → ((last ≡ 1 → ⊥) → P (last - 1)) → P (previous last)
previous_by last P first other = cond_by P (eqb last 1) _ _ (λ e. first (eqb-true last 1 e)) (λ e. other (eqb-false last 1 e))

pub back_index : (last j : ℕ) → Index last → j < 0xFFFF → Index (back last j)
back_index last j h small = back_by last j Index (λ l. (omega arith, omega arith)) (λ l. (omega arith, omega arith))

pub previous_index : (last : ℕ) → Index last → Index (previous last)
previous_index last h = previous_by last Index (λ e. (omega arith, omega arith)) (λ e. (omega arith, omega arith))

pub back_previous : (last j : ℕ) → Index last → j < 0xFFFF → back (previous last) j ≡ back last (suc j)
back_previous last j h small =
    previous_by last (λ i. back i j ≡ back last (suc j))
    (λ e. back_by 0xFFFF j (λ i. i ≡ back last (suc j))
    (λ l. back_by last (suc j) (λ i. 0xFFFF - j ≡ i) (λ m. omega arith) (λ m. omega arith))
    (λ l. absurd (omega arith)))
    (λ e. back_by (last - 1) j (λ i. i ≡ back last (suc j))
    (λ l. back_by last (suc j) (λ i. last - 1 - j ≡ i) (λ m. omega arith) (λ m. omega arith))
    (λ l. back_by last (suc j) (λ i. last - 1 + 0xFFFF - j ≡ i) (λ m. omega arith) (λ m. omega arith)))

-- what is j before is j before
pub far_back : (last j : ℕ) → Index last → j < 0xFFFF → far last (back last j) ≡ j
far_back last j h small =
    back_by last j (λ i. far last i ≡ j)
    (λ l. far_by last (last - j) (λ n. n ≡ j) (λ m. omega arith) (λ m. omega arith))
    (λ l. far_by last (last + 0xFFFF - j) (λ n. n ≡ j) (λ m. omega arith) (λ m. omega arith))

pub back_far : (last start : ℕ) → Index last → Index start → back last (far last start) ≡ start
back_far last start h s =
    far_by last start (λ n. back last n ≡ start)
    (λ l. back_by last (last - start) (λ i. i ≡ start) (λ m. omega arith) (λ m. omega arith))
    (λ l. back_by last (last + 0xFFFF - start) (λ i. i ≡ start) (λ m. omega arith) (λ m. omega arith))

pub up_to_length : (n last : ℕ) → length (up_to n last) ≡ n
unfolding up_to
up_to_length zero last = refl
up_to_length (suc n) last = simp (length-append, up_to_length n (previous last)) (omega arith)

pub back_none : (last : ℕ) → Index last → back last 0 ≡ last
back_none last h = back_by last 0 (λ i. i ≡ last) (λ l. omega arith) (λ l. omega arith)

-- index i of those up to last is j before it, where i + 1 + j are all
pub up_to_at : (n last i j : ℕ) → Index last → n ≤ 32 → i + 1 + j ≡ n → get_or (up_to n last) i 0x0000 ≡ back last j
unfolding up_to
up_to_at zero last i j h few all = absurd (omega arith)
up_to_at (suc n) last i zero h few all =
    get_or_at (up_to n (previous last)) last [] 0x0000 i (omega (arith, up_to_length n (previous last))) ∙ sym (back_none last h)
up_to_at (suc n) last i (suc j) h few all =
    get_or-append (up_to n (previous last)) (last ∷ []) 0x0000 i (omega (arith, up_to_length n (previous last)))
    ∙ up_to_at n (previous last) i j (previous_index last h) (omega arith) (omega arith)
    ∙ back_previous last j h (omega arith)
