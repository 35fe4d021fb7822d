-- "Numbers on the wire are big-endian": the most significant byte comes first, in reading and in writing. Assumes nothing.
use Prim.Native.Nat.{ℕ, ◌+◌, ◌*◌, ◌/◌, ◌%◌, ◌<◌}
use native.Mathlib.Omega.{arith}
use mathlib.Core.Path.{◌≡◌, refl}
use mathlib.Core.List.{List, [], ◌∷◌}
use Rattle.model.specs.Bytes.{word, dword, two, four}

-- reading two and four bytes
pub word_reads : (a b : ℕ) (rest : List ℕ) → word (a ∷ b ∷ rest) 0 ≡ a * 0x100 + b
word_reads a b rest = refl

pub dword_reads : (a b c d : ℕ) (rest : List ℕ)
    → dword (a ∷ b ∷ c ∷ d ∷ rest) 0 ≡ ((a * 0x100 + b) * 0x100 + c) * 0x100 + d
dword_reads a b c d rest = omega arith

-- writing two and four bytes
pub two_writes : (a b : ℕ) → a < 0x100 → b < 0x100 → two (a * 0x100 + b) ≡ a ∷ b ∷ []
two_writes a b ha hb =
    let high : (a * 0x100 + b) / 0x100 % 0x100 ≡ a = omega arith in
    let low : (a * 0x100 + b) % 0x100 ≡ b = omega arith in
    cc

pub four_writes : (a b c d : ℕ) → a < 0x100 → b < 0x100 → c < 0x100 → d < 0x100
    → four (((a * 0x100 + b) * 0x100 + c) * 0x100 + d) ≡ a ∷ b ∷ c ∷ d ∷ []
four_writes a b c d ha hb hc hd =
    let n : ℕ = ((a * 0x100 + b) * 0x100 + c) * 0x100 + d in
    let first : n / 0x1000000 % 0x100 ≡ a = omega arith in
    let second : n / 0x10000 % 0x100 ≡ b = omega arith in
    let third : n / 0x100 % 0x100 ≡ c = omega arith in
    let fourth : n % 0x100 ≡ d = omega arith in
    cc
