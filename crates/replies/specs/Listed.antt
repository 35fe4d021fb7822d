-- A list that is written into the lent buffer descriptor by descriptor, behind a head: that of 06h, and that of 21h (#101).
use Rattle.std.specs.Prelude.{ℕ, ◌+◌, ◌*◌, ◌≡◌, List, length}
use Rattle.std.proofs.lemmas.List.Edits.{sets}
use Rattle.model.specs.Reply.{descriptors}

-- How a list lies in its response: how many bytes come before the first descriptor, how many each descriptor has, and which.
pub record Layout (A : Type 0) : Type 0 where
  pub head : ℕ
  pub size : ℕ
  pub bytes : A → List ℕ
  pub each : (x : A) → length (bytes x) ≡ size

-- where descriptor n begins, and how long a response of n descriptors is
abbrev pub begins : {A : Type 0} → Layout A → ℕ → ℕ
begins list n = list.head + list.size * n

-- the buffer with the descriptors of these, from the place of descriptor n on
abbrev pub listed_from : {A : Type 0} → Layout A → List ℕ → ℕ → List A → List ℕ
listed_from list out n xs = sets out (begins list n) (descriptors list.bytes xs)

-- These are listed from descriptor n on: how many descriptors there are then, and what the buffer then holds.
pub record Lists {A : Type 0} (list : Layout A) (out : List ℕ) (n : ℕ) (xs : List A) (number : ℕ) (after : List ℕ) : Type 0 where
  pub many : number ≡ n + length xs
  pub holds : after ≡ listed_from list out n xs
