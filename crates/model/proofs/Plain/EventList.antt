-- What a request for the list of stored peak events (21h, #101) is given, in plain logic; and the same by numbers, as the code works it out.
-- Assumes nothing.
use Prim.Native.Nat.{ℕ, zero, suc, ◌+◌, ◌-◌, ◌%◌, ◌≤◌, ◌<◌, min, zero-le}
use native.Mathlib.Nat.{le_refl, pos_of_ne-zero, eq-zero-or-pos}
use native.Mathlib.Omega.{arith}
use mathlib.Core.Path.{◌≡◌, refl, sym, ap, subst, subst⁻¹, ◌∙◌}
use mathlib.Core.Logic.{◌⊎◌, inl, inr, ⊎_elim}
use mathlib.Core.Bool.{Bool, true, false, cond, or-true}
use mathlib.Core.List.{List, [], ◌∷◌}
use borrow.Author.Tests.{ltb-true, ltb-false, lt-ltb, le-ltb, eqb-true, eqb-false, eq-eqb, ne_eqb}
use lib.Dec.{ltb, eqb}
use lib.ListN.{length, get_or, drop, length-drop, drop_of_length-le}
use lib.Seq.{get_or-drop, ext_get_or}
use Rattle.model.specs.declared.Entry.{Entry}
use Rattle.model.specs.declared.Store.{Store}
use Rattle.model.specs.Shelf.{no_entry}
use Rattle.model.specs.Store.{entry_at, place, kept, place_of, entries, previous, up_to, indexes, since}
use Rattle.model.specs.Store.{lowest, above, first_index, first_returned, returned}
use Rattle.model.specs.Tests.{one_of, join_below}
use Rattle.model.proofs.Laws.Join.{join_length, join_at, join_each}
use Rattle.model.proofs.Laws.Places.{All, all_append}
use Rattle.model.proofs.Laws.Tests.{cond_by, cond_both}
use Rattle.model.proofs.Plain.Store.{kept_few, entries_length, entries_at, back, far, Index, back_by, far_by, back_index, previous_index, back_previous}
use Rattle.model.proofs.Plain.Store.{far_back, back_far, back_none, up_to_length, up_to_at}

-- ---- what is given is some of it

since_few : (first : ℕ) (is : List ℕ) (es : List Entry) → length (since first is es) ≤ length es
since_few first [] es = zero-le
since_few first (i ∷ is) [] = zero-le
since_few first (i ∷ is) (e ∷ es) =
    cond_both (λ l. length l ≤ length (e ∷ es)) (eqb i first) _ _ (omega arith) (omega (arith, since_few first is es))

since_all : (P : Entry → Type 0) (first : ℕ) (is : List ℕ) (es : List Entry) → All P es → All P (since first is es)
since_all P first [] es all = tt
since_all P first (i ∷ is) [] all = tt
since_all P first (i ∷ is) (e ∷ es) all = cond_both (All P) (eqb i first) _ _ all (since_all P first is es all.1)

pub returned_few : (k : Store) (start : ℕ) → length (returned k start) ≤ 32
unfolding returned
returned_few k start =
    omega (arith, since_few (first_returned k start) (indexes k) (entries k), entries_length k, kept_few k)

-- what holds of every entry that is kept holds of every entry that is given
pub returned_all : (P : Entry → Type 0) (k : Store) (start : ℕ) → ((i : ℕ) → P (entry_at k i)) → All P (returned k start)
unfolding returned entries
returned_all P k start each =
    since_all P (first_returned k start) (indexes k) (entries k) (join_each P (kept k) (λ i. entry_at k (place_of k i)) (λ i. each (place_of k i)))

-- ---- lists of indexes

one_of_at : (is : List ℕ) (i start : ℕ) → i < length is → get_or is i 0x0000 ≡ start → one_of is start ≡ true
one_of_at [] i start h e = absurd (omega arith)
one_of_at (x ∷ is) zero start h e = rw (eq-eqb start x (sym e))
one_of_at (x ∷ is) (suc i) start h e = rw (one_of_at is i start (omega arith) e, or-true (eqb start x))

one_of_none : (is : List ℕ) (start : ℕ) → ((i : ℕ) → i < length is → get_or is i 0x0000 ≡ start → ⊥) → one_of is start ≡ false
one_of_none [] start none = refl
one_of_none (x ∷ is) start none =
    rw (ne_eqb start x (λ e. none 0 (omega arith) (sym e)), one_of_none is start (λ i h. none (suc i) (omega arith)))

-- the entries from an index on, which no entry before has
since_at : (is : List ℕ) (es : List Entry) (i first : ℕ) → length is ≡ length es → i < length is → get_or is i 0x0000 ≡ first
    → ((j : ℕ) → j < i → get_or is j 0x0000 ≡ first → ⊥) → since first is es ≡ drop i es
since_at [] es i first same h e apart = absurd (omega arith)
since_at (x ∷ is) [] i first same h e apart = absurd (omega arith)
since_at (x ∷ is) (y ∷ es) zero first same h e apart = rw (eq-eqb x first e)
since_at (x ∷ is) (y ∷ es) (suc i) first same h e apart =
    rw (ne_eqb x first (apart 0 (omega arith)))
    (since_at is es i first (omega arith) (omega arith) e (λ j l. apart (suc j) (omega arith)))

since_none : (is : List ℕ) (es : List Entry) (first : ℕ) → ((i : ℕ) → i < length is → get_or is i 0x0000 ≡ first → ⊥)
    → since first is es ≡ []
since_none [] es first none = refl
since_none (x ∷ is) [] first none = refl
since_none (x ∷ is) (y ∷ es) first none =
    rw (ne_eqb x first (none 0 (omega arith))) (since_none is es first (λ i h. none (suc i) (omega arith)))

-- the lowest is the first, if none is below it
lowest_from : (x y : ℕ) (is : List ℕ) → All (λ i. x ≤ i) (y ∷ is) → x ≤ lowest (y ∷ is)
lowest_from x y [] all = all.0
lowest_from x y (z ∷ is) all = omega (arith, all.0, lowest_from x z is all.1)

lowest_first : (x : ℕ) (is : List ℕ) → All (λ i. x ≤ i) is → lowest (x ∷ is) ≡ x
lowest_first x [] all = refl
lowest_first x (y ∷ is) all = omega (arith, lowest_from x y is all)

above_none : (start : ℕ) (is : List ℕ) → All (λ i. i ≤ start) is → above start is ≡ []
above_none start [] all = refl
above_none start (i ∷ is) all = rw (le-ltb start i all.0) (above_none start is all.1)

above_all : (P : ℕ → Type 0) (start : ℕ) (is : List ℕ) → All (λ i. start < i → P i) is → All P (above start is)
above_all P start [] all = tt
above_all P start (i ∷ is) all =
    cond_by (All P) (ltb start i) _ _ (λ e. (all.0 (ltb-true start i e), above_all P start is all.1)) (λ e. above_all P start is all.1)

-- ---- "A start that is not stored returns from the lowest stored index above it, or, where there is none, from the lowest stored index":
-- whichever of the two it is, it is the oldest.

-- the oldest is above the start, and no other that is above it is lower
first_above : (x : ℕ) (is : List ℕ) (start : ℕ) → 1 ≤ start → one_of (x ∷ is) start ≡ false → start < x → All (λ i. start < i → x ≤ i) is
    → first_index (x ∷ is) start ≡ x
unfolding first_index
first_above x is start some out over all =
    rw (
      ne_eqb start 0x0000 (λ e. omega arith),
      out,
      lt-ltb start x over,
      lowest_first x (above start is) (above_all (λ i. x ≤ i) start is all),
      ne_eqb x 0x0000 (λ e. omega arith),
    )

-- none is above the start, and none is lower than the oldest
first_lowest : (x : ℕ) (is : List ℕ) (start : ℕ) → 1 ≤ start → one_of (x ∷ is) start ≡ false → All (λ i. i ≤ start) (x ∷ is)
    → All (λ i. x ≤ i) is → first_index (x ∷ is) start ≡ x
unfolding first_index
first_lowest x is start some out under all =
    rw (ne_eqb start 0x0000 (λ e. omega arith), out, above_none start (x ∷ is) under) (lowest_first x is all)

first_oldest : (is : List ℕ) (start : ℕ) → 1 ≤ length is → 1 ≤ start → one_of is start ≡ false
    → (let x : ℕ = get_or is 0 0x0000 in
    ((start < x) × All (λ i. start < i → x ≤ i) is) ⊎ (All (λ i. i ≤ start) is × All (λ i. x ≤ i) is))
    → first_index is start ≡ get_or is 0 0x0000
first_oldest [] start h some out either = absurd (omega arith)
first_oldest (x ∷ is) start h some out (inl (over, all)) = first_above x is start some out over all.1
first_oldest (x ∷ is) start h some out (inr (under, all)) = first_lowest x is start some out under all.1

-- what holds of each of n indexes in a row
up_to_all : (P : ℕ → Type 0) (n last : ℕ) → Index last → n ≤ 32 → ((j : ℕ) → j < n → P (back last j)) → All P (up_to n last)
unfolding up_to
up_to_all P zero last h few each = tt
up_to_all P (suc n) last h few each =
    all_append P (up_to n (previous last)) (last ∷ [])
    (up_to_all P n (previous last) (previous_index last h) (omega arith)
    (λ j l. subst⁻¹ P (back_previous last j h (omega arith)) (each (suc j) (omega arith))))
    (subst P (back_none last h) (each 0 (omega arith)), tt)

module _ (n last start : ℕ) (h : Index last) (s : Index start) (few : n ≤ 32) where
  -- a start is stored exactly if it is less than n before the last
  stored_near : far last start < n → one_of (up_to n last) start ≡ true
  stored_near near =
      one_of_at (up_to n last) (n - 1 - far last start) start (omega (arith, up_to_length n last))
      (up_to_at n last (n - 1 - far last start) (far last start) h few (omega arith) ∙ back_far last start h s)

  -- index i of n up to last, where it is the start
  pub at_start : (i : ℕ) → i < n → get_or (up_to n last) i 0x0000 ≡ start → i + 1 + far last start ≡ n
  at_start i below e =
      let j : ℕ = n - 1 - i in
      let here : back last j ≡ start = sym (up_to_at n last i j h few (omega arith)) ∙ e in
      let same : far last start ≡ j = ap (far last) (sym here) ∙ far_back last j h (omega arith) in
      omega arith

  not_stored : n ≤ far last start → one_of (up_to n last) start ≡ false
  not_stored out =
      one_of_none (up_to n last) start (λ i below e. let all = at_start i (rw (up_to_length n last) at below) e in omega arith)

  first_stored : far last start < n → first_index (up_to n last) start ≡ start
  unfolding first_index
  first_stored near = rw (ne_eqb start 0x0000 (λ e. omega arith), stored_near near)

  first_whole : 1 ≤ n → n ≤ far last start → first_index (up_to n last) start ≡ back last (n - 1)
  first_whole some out =
      let oldest : get_or (up_to n last) 0 0x0000 ≡ back last (n - 1) = up_to_at n last 0 (n - 1) h few (omega arith) in
      first_oldest (up_to n last) start (omega (arith, up_to_length n last)) s.0 (not_stored out) (rw oldest either) ∙ oldest
    where
      -- of the oldest, x
      Either : ℕ → Type 0
      Either x =
          ((start < x) × All (λ i. start < i → x ≤ i) (up_to n last)) ⊎ (All (λ i. i ≤ start) (up_to n last) × All (λ i. x ≤ i) (up_to n last))

      each : (P : ℕ → Type 0) → ((j : ℕ) → j < n → P (back last j)) → All P (up_to n last)
      each P = up_to_all P n last h few

      -- they don't go round, and the start is under them or over them
      under : n - 1 < last → n ≤ last - start → Either (last - (n - 1))
      under row out = inl (
        omega arith,
        each (λ i. start < i → last - (n - 1) ≤ i)
            (λ j b. back_by last j (λ i. start < i → last - (n - 1) ≤ i) (λ l o. omega arith) (λ l o. absurd (omega arith))),
      )

      over : n - 1 < last → last < start → Either (last - (n - 1))
      over row far = inr (
        each (λ i. i ≤ start) (λ j b. back_by last j (λ i. i ≤ start) (λ l. omega arith) (λ l. absurd (omega arith))),
        each (λ i. last - (n - 1) ≤ i) (λ j b. back_by last j (λ i. last - (n - 1) ≤ i) (λ l. omega arith) (λ l. absurd (omega arith))),
      )

      -- they go round, and the start is between
      between : last ≤ n - 1 → last < start → n ≤ last + 0xFFFF - start → Either (last + 0xFFFF - (n - 1))
      between round far out = inl (
        omega arith,
        each (λ i. start < i → last + 0xFFFF - (n - 1) ≤ i)
            (λ j b.
            back_by last j (λ i. start < i → last + 0xFFFF - (n - 1) ≤ i) (λ l o. absurd (omega arith)) (λ l o. omega arith)),
      )

      either : Either (back last (n - 1))
      either =
          back_by last (n - 1) Either
          (λ row. far_by last start (λ d. n ≤ d → Either (last - (n - 1))) (λ l d. under row d) (λ l d. over row l) out)
          (λ round. far_by last start (λ d. n ≤ d → Either (last + 0xFFFF - (n - 1))) (λ l d. absurd (omega arith)) (λ l d. between round l d) out)

-- ---- What a request for the list is given

-- none of n indexes in a row is 0000h
up_to_some : (n last i : ℕ) → Index last → n ≤ 32 → i < n → get_or (up_to n last) i 0x0000 ≡ 0x0000 → ⊥
up_to_some n last i h few below e =
    let here : back last (n - 1 - i) ≡ 0x0000 = sym (up_to_at n last i (n - 1 - i) h few (omega arith)) ∙ e in
    let some : Index (back last (n - 1 - i)) = back_index last (n - 1 - i) h (omega arith) in
    omega arith

-- where there are entries, there is a last index
pub kept_last : (k : Store) → 1 ≤ kept k → 1 ≤ k.last
kept_last k = cond_by (λ n. 1 ≤ n → 1 ≤ k.last) (eqb k.last 0x0000) _ _ (λ e some. absurd (omega arith)) (λ e some. pos_of_ne-zero (eqb-false k.last 0x0000 e))

module _ (k : Store) (fits : k.last ≤ 0xFFFF) (start : ℕ) where
  same_length : length (indexes k) ≡ length (entries k)
  unfolding indexes
  same_length = up_to_length (kept k) k.last ∙ sym (entries_length k)

  -- "A start of 0000h, or an empty store, returns index 0000h and none."
  pub start_none : start ≡ 0x0000 → (first_returned k start ≡ 0x0000) × (returned k start ≡ [])
  unfolding first_returned first_index returned indexes
  start_none e =
      rw e (
        refl,
        since_none (up_to (kept k) k.last) (entries k) 0x0000
            (λ i below. let l : i < kept k = rw (up_to_length (kept k) k.last) at below in up_to_some (kept k) k.last i (kept_last k (omega arith), fits) (kept_few k) l),
      )

  pub empty_none : kept k ≡ 0 → (first_returned k start ≡ 0x0000) × (returned k start ≡ [])
  unfolding first_returned first_index returned indexes up_to
  empty_none e = rw e (cond_both (λ i. i ≡ 0x0000) (eqb start 0x0000) _ _ refl refl, refl)

  module _ (s : Index start) (some : 1 ≤ kept k) where
    -- A start that is stored: from it to the newest.
    pub start_stored : far k.last start < kept k
        → (first_returned k start ≡ start) × (returned k start ≡ drop (kept k - 1 - far k.last start) (entries k))
    unfolding first_returned returned indexes
    start_stored near =
        let h : Index k.last = (kept_last k some, fits) in
        let d : ℕ = far k.last start in
        let i : ℕ = kept k - 1 - d in
        let first : first_returned k start ≡ start = first_stored (kept k) k.last start h s (kept_few k) near in (
          first,
          rw first
              (since_at (indexes k) (entries k) i start same_length (omega (arith, up_to_length (kept k) k.last))
              (up_to_at (kept k) k.last i d h (kept_few k) (omega arith) ∙ back_far k.last start h s)
              (λ j l e. let all = at_start (kept k) k.last start h s (kept_few k) j (omega arith) e in omega arith)),
        )

    -- A start that is not stored: the whole store.
    pub start_not_stored : kept k ≤ far k.last start
        → (first_returned k start ≡ back k.last (kept k - 1)) × (returned k start ≡ entries k)
    unfolding first_returned returned indexes
    start_not_stored out =
        let h : Index k.last = (kept_last k some, fits) in
        let first : first_returned k start ≡ back k.last (kept k - 1) = first_whole (kept k) k.last start h s (kept_few k) some out in (
          first,
          rw first
              (since_at (indexes k) (entries k) 0 (back k.last (kept k - 1)) same_length (omega (arith, up_to_length (kept k) k.last))
              (up_to_at (kept k) k.last 0 (kept k - 1) h (kept_few k) (omega arith))
              (λ j l e. absurd (omega arith))),
        )

-- ---- The same by numbers, as the code works it out: how many entries are given, which, and the first one's index

-- the last n of the entries kept, by their places
pub last_entries : (k : Store) (n : ℕ) → n ≤ kept k
    → join_below n (λ j. entry_at k ((place k + (32 - n) + j) % 32) ∷ []) ≡ drop (kept k - n) (entries k)
last_entries k n few =
    ext_get_or no_entry (join_below n (λ j. entry_at k ((place k + (32 - n) + j) % 32) ∷ [])) (drop (kept k - n) (entries k))
    (join_length n (λ j. entry_at k ((place k + (32 - n) + j) % 32))
    ∙ sym (length-drop (kept k - n) (entries k) ∙ (let z : length (entries k) - (kept k - n) ≡ n = omega (arith, entries_length k) in z)))
    (λ j h.
    let below : j < n = rw (join_length n (λ i. entry_at k ((place k + (32 - n) + i) % 32))) at h in
    join_at n (λ i. entry_at k ((place k + (32 - n) + i) % 32)) no_entry j below
    ∙ ap (entry_at k) (let z : (place k + (32 - n) + j) % 32 ≡ place_of k (kept k - n + j) = omega (arith, kept_few k) in z)
    ∙ sym (entries_at k (kept k - n + j) (omega arith))
    ∙ sym (get_or-drop (kept k - n) (entries k) j no_entry))

-- the index of the first of the last n, and of none 0000h
abbrev pub first_of : ℕ → ℕ → ℕ
first_of last n = cond (eqb n 0) 0x0000 (back last (n - 1))

-- how many are given
abbrev pub many : Store → ℕ → ℕ
many k start = cond (eqb start 0x0000) 0 (min (far k.last start + 1) (kept k))

-- so many, the last ones, and the first one's index
pub record ByNumber (k : Store) (start n : ℕ) : Type 0 where
  pub number : length (returned k start) ≡ n
  pub entries : returned k start ≡ drop (kept k - n) (entries k)
  pub first : first_returned k start ≡ first_of k.last n
  pub few : n ≤ kept k

-- from how many were dropped
numbered : (k : Store) (start n first : ℕ) → n ≤ kept k → (first_returned k start ≡ first) × (returned k start ≡ drop (kept k - n) (entries k))
    → first ≡ first_of k.last n → ByNumber k start n
numbered k start n first few (is, rest) index =
    record {
      number = ap length rest ∙ length-drop (kept k - n) (entries k) ∙ (let z : length (entries k) - (kept k - n) ≡ n = omega (arith, entries_length k) in z);
      entries = rest;
      first = is ∙ index;
      few = few;
    }

drop_all : (k : Store) → [] ≡ drop (kept k - 0) (entries k)
drop_all k = sym (drop_of_length-le (entries k) {i = kept k - 0} (omega (arith, entries_length k)))

pub by_number : (k : Store) (start : ℕ) → k.last ≤ 0xFFFF → start ≤ 0xFFFF → ByNumber k start (many k start)
by_number k start fits small = cond_by (ByNumber k start) (eqb start 0x0000) _ _ zeroth some
  where
    d : ℕ
    d = far k.last start

    none : (first_returned k start ≡ 0x0000) × (returned k start ≡ []) → ByNumber k start 0
    none (first, rest) = numbered k start 0 0x0000 zero-le (first, rest ∙ drop_all k) refl

    zeroth : eqb start 0x0000 ≡ true → ByNumber k start 0
    zeroth e = none (start_none k fits start (eqb-true start 0x0000 e))

    near : Index start → d < kept k → ByNumber k start (d + 1)
    near s l =
        let h : Index k.last = (kept_last k (omega arith), fits) in
        let (first, rest) = start_stored k fits start s (omega arith) l in
        numbered k start (d + 1) start (omega arith)
        (first, rest ∙ ap (λ m. drop m (entries k)) (let z : kept k - 1 - d ≡ kept k - (d + 1) = omega arith in z))
        (rw (ne_eqb (d + 1) 0 (λ e. omega arith)) (sym (back_far k.last start h s) ∙ ap (back k.last) (let z : d ≡ d + 1 - 1 = omega arith in z)))

    whole : Index start → kept k ≤ d → 1 ≤ kept k → ByNumber k start (kept k)
    whole s l full =
        let (first, rest) = start_not_stored k fits start s full l in
        numbered k start (kept k) (back k.last (kept k - 1)) (le_refl (kept k))
        (first, rest ∙ ap (λ m. drop m (entries k)) (let z : 0 ≡ kept k - kept k = omega arith in z))
        (rw (ne_eqb (kept k) 0 (λ e. omega arith)))

    some : eqb start 0x0000 ≡ false → ByNumber k start (min (d + 1) (kept k))
    some e = go (ltb d (kept k)) refl
      where
        s : Index start
        s = (pos_of_ne-zero (eqb-false start 0x0000 e), small)

        go : (b : Bool) → ltb d (kept k) ≡ b → ByNumber k start (min (d + 1) (kept k))
        go true l =
            let below : d < kept k = ltb-true d (kept k) l in
            subst (ByNumber k start) (let z : d + 1 ≡ min (d + 1) (kept k) = omega arith in z) (near s below)
        go false l =
            let out : kept k ≤ d = ltb-false d (kept k) l in
            subst (ByNumber k start) (let z : kept k ≡ min (d + 1) (kept k) = omega arith in z)
            (⊎_elim (λ empty. rw empty (none (empty_none k fits start empty))) (λ full. whole s out full) (eq-zero-or-pos (kept k)))
