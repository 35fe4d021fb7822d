-- A response that is sent into the front of a lent buffer, where there is room for any, is sent into the buffer. Assumes nothing.
use Prim.Native.Nat.{ℕ, ◌≤◌}
use native.Mathlib.Omega.{arith}
use mathlib.Core.Path.{◌≡◌, refl, sym, ap, ◌∙◌}
use mathlib.Core.List.{List, ◌++◌, append_assoc}
use lib.ListN.{length, take, drop}
use lib.Seq.{length-take-le}
use Rattle.std.specs.Array.{IsFirstChunk}
use Rattle.std.proofs.lemmas.List.{take-append-drop, drop-append-le}
use Rattle.model.specs.Server.{least_buffer, over}
use Rattle.replies.specs.Sent.{Sent}
use Rattle.replies.proofs.Room.{has_room}

pub sent_in_front : {out front after : List ℕ} {size : ℕ} (bytes : List ℕ) → length bytes ≤ least_buffer → IsFirstChunk out front least_buffer
    → Sent front bytes size after → Sent out bytes size (after ++ drop least_buffer out)
sent_in_front {out} {front} {after} {size} bytes fits is sent =
    let long : length (take least_buffer out) ≡ least_buffer = length-take-le least_buffer out is.enough in
    let into_front : (size ≡ length bytes) × (after ≡ over front bytes) =
    rw (has_room front bytes (omega (arith, ap length is.same ∙ long))) at sent in
    let rest : drop (length bytes) (take least_buffer out) ++ drop least_buffer out ≡ drop (length bytes) out =
    sym (drop-append-le (length bytes) (take least_buffer out) (drop least_buffer out) (omega (arith, long)))
    ∙ ap (drop (length bytes)) (take-append-drop least_buffer out) in
    rw (has_room out bytes is.enough) (into_front.0, rw (into_front.1, append_assoc, is.same, rest) refl)
