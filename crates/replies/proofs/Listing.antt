-- Writing a list into the lent buffer, part after part, and its head in front of it (`Lists` of specs/Listed). Assumes nothing.
use Prim.Native.Nat.{ℕ, ◌+◌, ◌-◌, ◌*◌, ◌≤◌}
use native.Mathlib.Nat.{mul-zero, mul-add}
use native.Mathlib.Omega.{arith}
use mathlib.Core.Path.{◌≡◌, refl, sym, ap, ◌∙◌}
use mathlib.Core.List.{List, [], ◌∷◌, ◌++◌, append_assoc, append-nil}
use lib.ListN.{length, take, drop, length-append}
use lib.Seq.{sets-eq, length-sets, length-take-le, drop_at}
use Rattle.model.specs.Reply.{descriptors}
use Rattle.model.specs.Server.{least_buffer, over}
use Rattle.model.proofs.Laws.Places.{sets_append}
use Rattle.model.proofs.Plain.Reply.{descriptors_length}
use Rattle.replies.specs.Listed.{Layout, begins, listed_from, Lists}
use Rattle.replies.specs.Sent.{Sent}
use Rattle.replies.proofs.Laid.{laid_over_lem}
use Rattle.replies.proofs.Room.{has_room}
use borrow.Rule.Slice.PartMut.{put_mid}

descriptors_append : {A : Type 0} (of : A → List ℕ) (xs ys : List A) → descriptors of (xs ++ ys) ≡ descriptors of xs ++ descriptors of ys
unfolding descriptors
descriptors_append of [] ys = refl
descriptors_append of (x ∷ xs) ys = rw (descriptors_append of xs ys, append_assoc)

module _ {A : Type 0} (list : Layout A) (xs : List A) where
  -- the descriptors together
  abbrev bytes : List ℕ
  bytes = descriptors list.bytes xs

  bytes_length : length bytes ≡ list.size * length xs
  bytes_length = descriptors_length list.bytes list.size list.each xs

  -- the head laid over the front of the list makes the frame, and the old rest stands behind it
  headed : (out front : List ℕ) → length front ≡ list.head → begins list (length xs) ≤ length out
      → front ++ drop list.head (listed_from list out 0 xs) ≡ over out (front ++ bytes)
  headed out front long room =
      let fits : list.head + length bytes ≤ length out = omega (arith, bytes_length) in
      let first : begins list 0 ≡ list.head = omega (arith, mul-zero list.size) in
      let rest = drop (list.head + length bytes) out in
      let behind : drop list.head (listed_from list out 0 xs) ≡ bytes ++ rest =
      rw (first, sets-eq bytes out list.head fits, append_assoc (take list.head out) bytes rest)
      (drop_at (take list.head out) (bytes ++ rest) list.head (length-take-le list.head out (omega arith))) in
      rw (length-append, long, behind, append_assoc)

module _ {A : Type 0} {list : Layout A} where
  pub lists_none : {out : List ℕ} {n : ℕ} → Lists list out n [] n out
  unfolding descriptors
  lists_none = record { many = omega arith; holds = refl }

  -- one descriptor, of which is known that it was copied into the part from its place on, and that it is a definition's
  pub lists_one : {out known part : List ℕ} {n : ℕ} (x : A) → begins list n + list.size ≤ length out
      → part ≡ known → known ≡ list.bytes x
      → Lists list out n (x ∷ []) (n + 1) (put_mid (begins list n) (begins list n + list.size - begins list n) out part)
  unfolding descriptors
  lists_one {out} {n} x fits put is =
      let at = begins list n in
      let long = list.each x in
      let of_size = ap (λ (k : ℕ). put_mid at (at + k - at) out (list.bytes x)) (sym long) in
      record { many = refl; holds = rw (put, is, append-nil) (of_size ∙ laid_over_lem out (list.bytes x) at (omega arith)) }

  -- the descriptors of xs from n on, and then those of ys from there on
  pub lists_append : {out out' out'' : List ℕ} {n n' n'' : ℕ} {xs ys : List A}
      → Lists list out n xs n' out' → Lists list out' n' ys n'' out'' → Lists list out n (xs ++ ys) n'' out''
  lists_append {n} {xs} first then =
      let next : begins list (n + length xs) ≡ begins list n + length (bytes list xs) =
      omega (arith, bytes_length list xs, mul-add list.size n (length xs)) in
      record {
        many = simp length-append (omega arith);
        holds = rw (then.holds, first.holds, first.many, next, sets_append, descriptors_append);
      }

  -- listing keeps the buffer's length
  pub lists_length : {out after : List ℕ} {n number : ℕ} {xs : List A} → Lists list out n xs number after → length after ≡ length out
  lists_length {out} {n} {xs} l = ap length l.holds ∙ length-sets out (begins list n) (bytes list xs)

  -- So the response has been sent. Of the head is known that it was copied to the front, and that it is a definition's.
  pub list_sent : {out front known listed after : List ℕ} {n size : ℕ} {xs : List A} → least_buffer ≤ length out
      → begins list (length xs) ≤ length out → Lists list out 0 xs n listed
      → front ≡ known → length known ≡ list.head → after ≡ front ++ drop list.head listed
      → size ≡ begins list n
      → Sent out (known ++ descriptors list.bytes xs) size after
  list_sent {out} {front} {known} {n} {xs} room fits lists is long put size =
      let number : n ≡ length xs = omega arith in
      rw (has_room out (known ++ bytes list xs) room) (
        simp length-append (size ∙ rw (number, long, bytes_length list xs)),
        rw (put, lists.holds, headed list xs out front (ap length is ∙ long) fits, is),
      )
