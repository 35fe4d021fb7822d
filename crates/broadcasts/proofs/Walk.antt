-- The walk of a 06h over the phys: the loop's invariant, and that it holds at the beginning, after each turn and at the end. Assumes
-- nothing.
use Prim.Native.Nat.{ℕ, ◌+◌, ◌≤◌, ◌<◌}
use native.Mathlib.Numerals.{add-one}
use native.Mathlib.Omega.{arith}
use mathlib.Core.Path.{◌≡◌, refl, ◌∙◌}
use mathlib.Core.List.{List, [], ◌++◌, append_assoc, append-nil}
use lib.ListN.{length, get_or, length-append}
use Rattle.model.specs.declared.Phy.{Phy}
use Rattle.model.specs.Reply.{Broadcast, seen_listed}
use Rattle.model.specs.Shelf.{no_phy}
use Rattle.model.specs.Tests.{join_below}
use Rattle.model.proofs.Demands.Frames.{seen_few}
use Rattle.model.proofs.Laws.Join.{join_few}
use Rattle.replies.proofs.Listing.{lists_none, lists_append}
use Rattle.broadcasts.specs.declared.List.{List as Listing}
use Rattle.broadcasts.specs.Grows.{Grows}

-- where nothing is listed, nothing changes
pub grows_none : {list : Listing} {bs : List Broadcast} → bs ≡ [] → Grows list bs list
grows_none none = rw none (record { same_buffer = refl; lists = lists_none })

-- first these, and then those
pub grows_append : {before list after : Listing} {bs cs : List Broadcast} → Grows before bs list → Grows list cs after → Grows before (bs ++ cs) after
grows_append first then = record { same_buffer = then.same_buffer ∙ first.same_buffer; lists = lists_append first.lists then.lists }

-- what a source with this row sees of phy p
abbrev pub seen : List Phy → ℕ → ℕ → ℕ → List Broadcast
seen phys row kind p = seen_listed row kind p (get_or phys p no_phy)

-- The invariant: behind the counts under FFh, what is seen of the phys passed is listed.
pub record Walked (device : List Broadcast) (phys : List Phy) (row kind : ℕ) (before : Listing) (number p : ℕ) (list : Listing) : Type 0 where
  pub passed : p ≤ number
  pub grows : Grows before (device ++ join_below p (seen phys row kind)) list

pub walk_begin : {device : List Broadcast} {phys : List Phy} {row kind : ℕ} {before : Listing} {number : ℕ} {list : Listing}
    → Grows before device list → Walked device phys row kind before number 0 list
unfolding join_below
walk_begin {device} begun = record { passed = omega arith; grows = rw (append-nil device) begun }

module _ {device : List Broadcast} {phys : List Phy} {row kind : ℕ} {before : Listing} {number p : ℕ} {list : Listing}
    (walked : Walked device phys row kind before number p list) where
  pub walk_turn : {after : Listing} → p < number → Grows list (seen phys row kind p) after → Walked device phys row kind before number (p + 1) after
  unfolding join_below
  walk_turn below one = record {
    passed = omega arith;
    grows = rw (add-one p, ← append_assoc device (join_below p (seen phys row kind)) (seen phys row kind p)) (grows_append walked.grows one);
  }

  -- there is room for what belongs to one phy more
  pub walk_room : before.number ≡ 0 → length device ≤ 1 → p < 24 → list.number ≤ 47
  walk_room new one below =
      omega (
        arith,
        walked.grows.lists.many,
        length-append device (join_below p (seen phys row kind)),
        join_few p 2 (seen phys row kind) (λ q. seen_few row kind q (get_or phys q no_phy)),
      )

  pub walk_end : number ≤ p → Grows before (device ++ join_below number (seen phys row kind)) list
  walk_end all =
      let done : number ≡ p = omega (arith, walked.passed) in
      rw done walked.grows
