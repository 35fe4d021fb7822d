-- Bytes that are laid over a frame: one group of `laid` (crates/model/specs/Bytes).
use Rattle.std.specs.Prelude.{ℕ, ◌≡◌, List}
use Rattle.std.proofs.lemmas.List.Edits.{sets}

-- These bytes have been laid over the frame, from a place on: what it holds afterwards. (A record, so that a proof which is handed one
-- can tell the place and the bytes.)
pub record Lays (frame : List ℕ) (at : ℕ) (bytes after : List ℕ) : Type 0 where
  pub is : after ≡ sets frame at bytes
