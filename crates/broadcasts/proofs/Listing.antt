-- A 06h is sent once its list and its head stand in the lent buffer (`Listing` of replies has the laws of the list). Assumes nothing.
use Prim.Native.Nat.{ℕ, ◌+◌, ◌*◌, ◌≤◌}
use native.Mathlib.Omega.{arith}
use mathlib.Core.Path.{◌≡◌, refl, ◌∙◌}
use mathlib.Core.List.{List, ◌++◌}
use lib.ListN.{length, drop}
use Rattle.model.specs.declared.Shelf.{Shelf}
use Rattle.model.specs.Reply.{broadcasts, broadcast_head, report_broadcast}
use Rattle.model.specs.Server.{least_buffer}
use Rattle.model.proofs.Demands.Frames.{broadcasts_few}
use Rattle.model.proofs.Plain.Reply.{broadcast_bytes_length}
use Rattle.replies.specs.Listed.{Lists}
use Rattle.replies.specs.Sent.{Sent}
use Rattle.replies.proofs.Listing.{list_sent}
use Rattle.broadcasts.specs.Listed.{broadcast_list}

-- there is room for it: one count under FFh, and two of each of 24 phys
pub report_fits : (s : Shelf) (source kind : ℕ) → length (report_broadcast s source kind) ≤ least_buffer
unfolding report_broadcast
report_fits s source kind = omega (arith, broadcasts_few s source kind, broadcast_bytes_length (broadcasts s source kind))

-- Of the head is known that it was copied to the front, and that it is a definition's.
pub report_sent : (s : Shelf) (source kind : ℕ) {out front head listed after : List ℕ} {n size : ℕ} → least_buffer ≤ length out
    → Lists broadcast_list out 0 (broadcasts s source kind) n listed → front ≡ head → head ≡ broadcast_head s.changes kind n
    → after ≡ front ++ drop 8 listed → size ≡ 8 + 8 * n
    → Sent out (report_broadcast s source kind) size after
unfolding report_broadcast
report_sent s source kind {n} room lists front made put size =
    let number : n ≡ length (broadcasts s source kind) = omega arith in
    list_sent room (omega (arith, broadcasts_few s source kind)) lists (front ∙ rw number at made) refl put size
