-- What is sent into a lent buffer: with room for it, the bytes that are copied to its front; without, nothing. Assumes nothing.
use Prim.Native.Nat.{ℕ, ◌≤◌, ◌<◌}
use mathlib.Core.Path.{◌≡◌, refl}
use mathlib.Core.List.{List}
use borrow.Author.Tests.{lt-ltb, le-ltb}
use lib.ListN.{length}
use Rattle.model.specs.Server.{least_buffer}
use Rattle.replies.specs.Sent.{Sent, if_room}

module _ (out : List ℕ) where
  pub has_room : (bytes : List ℕ) → least_buffer ≤ length out → if_room out bytes ≡ bytes
  has_room bytes room = rw (le-ltb (length out) least_buffer room)

  pub none_sent : (bytes : List ℕ) → length out < least_buffer → Sent out bytes 0 out
  none_sent bytes short = rw (lt-ltb (length out) least_buffer short) (refl, refl)
