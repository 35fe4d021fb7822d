-- A response that stands in the lent buffer.
use Rattle.std.specs.Prelude.{ℕ, ◌≡◌, cond, List, [], ltb, length}
use Rattle.model.specs.Server.{least_buffer, over}

-- What is sent of these bytes: all, or, into a buffer that is too short (H5), nothing.
abbrev pub if_room : List ℕ → List ℕ → List ℕ
if_room out bytes = cond (ltb (length out) least_buffer) [] bytes

-- These bytes have been sent, if there was room: how many were, and the buffer afterwards, which holds what was sent and behind it its
-- old rest.
abbrev pub Sent : List ℕ → List ℕ → ℕ → List ℕ → Type 0
Sent out bytes size after = (size ≡ length (if_room out bytes)) × (after ≡ over out (if_room out bytes))
