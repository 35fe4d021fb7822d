-- Laying bytes over a frame: the copy into the part of a frame from a place on is what `sets` says (`laid_over_lem`), and one more group of
-- bytes lies over a frame that is known as something else (`then`). The responses (`fixed`) rest on the first by `lay`, and lists by `Listing`.
-- Assumes nothing.
use Prim.Native.Nat.{ℕ, ◌+◌, ◌-◌, ◌≤◌}
use native.Mathlib.Omega.{arith}
use mathlib.Core.Path.{◌≡◌}
use mathlib.Core.List.{List, append_assoc}
use lib.ListN.{length}
use lib.Seq.{sets, sets-eq}
use Rattle.replies.specs.Lays.{Lays}
use borrow.Rule.Slice.PartMut.{put_mid, Post-is}

module _ (frame bytes : List ℕ) (at : ℕ) (fits : at + length bytes ≤ length frame) where
  -- the part of the frame that the bytes are copied into, in its place
  pub laid_over_lem : put_mid at (at + length bytes - at) frame bytes ≡ sets frame at bytes
  laid_over_lem = rw (Post-is at (at + length bytes) frame (omega arith), sets-eq bytes frame at fits, append_assoc)

-- One more group of bytes over a frame that is known as something else.
pub then : {before after known bytes : List ℕ} {at : ℕ} → Lays before at bytes after → before ≡ known → after ≡ sets known at bytes
then laid k = rw (laid.is, k)
