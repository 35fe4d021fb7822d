-- A response that stands in the lent buffer, which has room for it.
use Rattle.std.specs.Prelude.{ℕ, ◌≡◌, List, length}
use Rattle.model.specs.Server.{over}

-- These bytes have been sent: how many they are, and the buffer afterwards, which holds them and behind them its old rest.
abbrev pub IsSent : List ℕ → List ℕ → ℕ → List ℕ → Type 0
IsSent out bytes size after = (size ≡ length bytes) × (after ≡ over out bytes)
