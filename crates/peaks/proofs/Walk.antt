-- The walk of a 21h over the entries: the loop's invariant, and that it holds at the beginning, after each turn and at the end. Assumes
-- nothing.
use Prim.Native.Nat.{ℕ, suc, ◌+◌, ◌-◌, ◌%◌, ◌≤◌, ◌<◌}
use native.Mathlib.Numerals.{add-one}
use native.Mathlib.Omega.{arith}
use mathlib.Core.Path.{◌≡◌}
use mathlib.Core.List.{List, [], ◌∷◌}
use lib.ListN.{drop}
use Rattle.model.specs.declared.Entry.{Entry}
use Rattle.model.specs.declared.Store.{Store}
use Rattle.model.specs.Store.{entry_at, place, kept, entries}
use Rattle.model.specs.Tests.{join_below}
use Rattle.model.proofs.Plain.EventList.{last_entries}
use Rattle.replies.specs.Listed.{Lists}
use Rattle.replies.proofs.Listing.{lists_none, lists_append}
use Rattle.peaks.specs.Listed.{entry_list}

-- entry i of the last n
abbrev pub last_of : Store → ℕ → ℕ → Entry
last_of k n i = entry_at k ((place k + (32 - n) + i) % 32)

-- The invariant: the entries passed are listed.
pub record Walked (k : Store) (n : ℕ) (out₀ : List ℕ) (i : ℕ) (out : List ℕ) : Type 0 where
  pub passed : i ≤ n
  pub lists : Lists entry_list out₀ 0 (join_below i (λ j. last_of k n j ∷ [])) i out

pub walk_begin : {k : Store} {n : ℕ} {out₀ : List ℕ} → Walked k n out₀ 0 out₀
unfolding join_below
walk_begin = record { passed = omega arith; lists = lists_none }

module _ {k : Store} {n : ℕ} {out₀ : List ℕ} {i : ℕ} {out : List ℕ} (walked : Walked k n out₀ i out) where
  pub walk_turn : {out' : List ℕ} → i < n → Lists entry_list out i (last_of k n i ∷ []) (i + 1) out' → Walked k n out₀ (i + 1) out'
  unfolding join_below
  walk_turn {out'} below one =
      let next : Lists entry_list out i (last_of k n i ∷ []) (suc i) out' = rw (add-one i) at one in
      rw (add-one i) (record { passed = omega arith; lists = lists_append walked.lists next })

  pub walk_end : n ≤ kept k → n ≤ i → Lists entry_list out₀ 0 (drop (kept k - n) (entries k)) n out
  walk_end few all =
      let done : i ≡ n = omega (arith, walked.passed) in
      rw (← last_entries k n few) (rw done at walked.lists)
