-- When the expected count and the operation of a write pass, in plain logic. Assumes nothing.
use Prim.Native.Nat.{ℕ}
use mathlib.Core.Logic.{◌↔◌}
use mathlib.Core.List.{List, [], ◌∷◌, Memᴰ}
use lib.Dec.{T}
use Rattle.model.specs.declared.Grounds.{Grounds}
use Rattle.model.specs.Results.{count_right, known_operation}
use Rattle.model.proofs.Laws.Tests.{one_of_iff}

-- not 04h: the expected count is 0000h or the present count
pub count_right_lem : (on : Grounds) (expected : ℕ)
    → T (count_right on expected)
    ↔ Memᴰ expected (0x0000 ∷ on.changes ∷ [])
unfolding count_right
count_right_lem on expected = one_of_iff (0x0000 ∷ on.changes ∷ []) expected

-- the four operations
abbrev pub known_operations : List ℕ
known_operations = 0x00 ∷ 0x01 ∷ 0x03 ∷ 0x05 ∷ []

-- not 13h: one of them
pub known_operation_lem : (operation : ℕ)
    → T (known_operation operation)
    ↔ Memᴰ operation known_operations
unfolding known_operation
known_operation_lem operation = one_of_iff known_operations operation
