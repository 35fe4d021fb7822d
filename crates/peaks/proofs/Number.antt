-- What a start is given, by numbers (`by_number` of the model), of the shelf that words stand for: its last index has 16 bits. Assumes
-- nothing.
use Prim.Native.Nat.{ℕ, ◌≤◌}
use native.Mathlib.Omega.{arith}
use mathlib.Core.Path.{◌≡◌, ◌∙◌}
use mathlib.Core.List.{List}
use lib.ListN.{length}
use Rattle.model.specs.Store.{returned}
use Rattle.model.proofs.Plain.EventList.{many, ByNumber, by_number}
use Rattle.words.specs.Words.{shelf_of, store_of}

last_narrow : (ws : List ℕ) → (shelf_of ws).store.last ≤ 0xFFFF
unfolding shelf_of store_of
last_narrow ws = omega arith

module _ (ws : List ℕ) (start : ℕ) (small : start ≤ 0xFFFF) where
  pub counted : ByNumber (shelf_of ws).store start (many (shelf_of ws).store start)
  counted = by_number (shelf_of ws).store start (last_narrow ws) small

  -- .. of a number that is known as how many there are
  pub numbered : {n : ℕ} → n ≡ length (returned (shelf_of ws).store start) → ByNumber (shelf_of ws).store start n
  numbered is = rw (is ∙ counted.number) counted
