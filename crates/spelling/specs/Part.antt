-- A part of some bytes.
use Rattle.std.specs.Prelude.{ℕ, ◌≤◌, ◌≡◌, List, length, take}

-- n counts bytes at the start of xs. The second part follows from the first; both are stated so that they are found where the
-- first n bytes are lent.
abbrev pub Counts : ℕ → List ℕ → Type 0
Counts n xs = (n ≤ length xs) × (n ≡ length (take n xs))
