-- What the holes `{:02X}` and `{:08X}` write is what the definitions say of it. Assumes nothing.
use Prim.Native.Nat.{ℕ, zero, suc, ◌+◌, ◌-◌, ◌/◌, ◌%◌, ◌^◌, ◌<◌, ◌≤◌}
use borrow.Author.Tests.{le-leb, lt-leb, lt-ltb, le-ltb, eq-eqb, ne_eqb}
use native.Mathlib.Omega.{arith}
use native.Mathlib.Nat.{pow-suc}
use mathlib.Core.Bool.{true, false}
use mathlib.Core.Logic.{⊎_elim, inl, inr}
use mathlib.Core.Path.{◌≡◌, refl, sym, ap, ◌∙◌}
use mathlib.Core.List.{List, [], ◌∷◌, ◌++◌, append-nil}
use lib.ListN.{length, replicate, take, get_or}
use Rattle.std.specs.Fmt.{digits, digit_glyph, digits_onto, padded_integral, format_spec, char_count}
use Rattle.std.specs.List.{flat_map}
use Rattle.std.proofs.lemmas.Fmt.{hex_byte}
use Rattle.std.proofs.lemmas.List.{flat_map_more, take_more}
use Rattle.std.proofs.lemmas.Bool.{cases_lt}
use Rattle.spelling.specs.Spelling.{hex_digit, set_text, byte_text}

glyph_digit : (d : ℕ) → d < 16 → digit_glyph true d ≡ hex_digit d
unfolding hex_digit
glyph_digit d small =
    ⊎_elim (λ low. rw (lt-ltb d 10 low, le-leb d 9 (omega arith)))
    (λ high. rw (le-ltb d 10 high, lt-leb d 9 (omega arith), le-leb d 15 (omega arith)) (omega arith)) (cases_lt d 10)

-- a byte, by `{:02X}`
byte_hole : (b : ℕ) → b < 256 → 0x20 ∷ padded_integral (format_spec 32 0 4 2 (2 ^ 64 - 1)) false [] (digits 16 true b) ≡ byte_text b
byte_hole b small = rw (hex_byte true b small, glyph_digit (b / 16) (omega arith), glyph_digit (b % 16) (omega arith))

-- one byte more of some bytes
pub byte_more : (bytes : List ℕ) (i : ℕ) → i < length bytes → get_or bytes i 0 < 256
    → flat_map byte_text (take i bytes)
    ++ (0x20 ∷ padded_integral (format_spec 32 0 4 2 (2 ^ 64 - 1)) false [] (digits 16 true (get_or bytes i 0)))
    ≡ flat_map byte_text (take (i + 1) bytes)
byte_more bytes i h small =
    rw (byte_hole (get_or bytes i 0) small, take_more bytes i 0 h) (flat_map_more byte_text [] (take i bytes) (get_or bytes i 0))

-- the last j digits of n, with zeros where it has fewer, before others
abbrev last_digits : ℕ → ℕ → List ℕ → List ℕ
last_digits zero n others = others
last_digits (suc j) n others = last_digits j (n / 16) (digit_glyph true (n % 16) ∷ others)

zeros_before : (j : ℕ) (others : List ℕ) → replicate j 48 ++ (48 ∷ others) ≡ replicate (suc j) 48 ++ others
zeros_before zero others = refl
zeros_before (suc j) others = ap (λ (l : List ℕ). 48 ∷ l) (zeros_before j others)

zero_digits : (j : ℕ) (others : List ℕ) → replicate j 48 ++ others ≡ last_digits j 0 others
zero_digits zero others = refl
zero_digits (suc j) others = sym (zeros_before j others) ∙ zero_digits j (48 ∷ others)

-- filled up with zeros, the digits are the last j
abbrev Filled : ℕ → ℕ → ℕ → List ℕ → Type 0
Filled j k n others =
    let written = digits_onto k 16 true n others in
    replicate (j + length others - length written) 48 ++ written ≡ last_digits j n others

-- no digit is left
none_left : (j k n : ℕ) (others : List ℕ) → n / 16 ≡ 0 → Filled (suc j) (suc k) n others
none_left j k n others none =
    let others_more : List ℕ = digit_glyph true (n % 16) ∷ others in
    let short : suc j + length others - suc (length others) ≡ j = omega arith in
    rw (eq-eqb (n / 16) 0 none, none, short) (zero_digits j others_more)

filled : (j k n : ℕ) (others : List ℕ) → n < 16 ^ suc j → j ≤ k → Filled (suc j) (suc k) n others
filled zero k n others small more = none_left zero k n others (omega arith)
filled (suc j) zero n others small more = absurd (omega arith)
filled (suc j) (suc k) n others small more =
    elim (cases_lt (n / 16) 1) [
      | inl none ↦ none_left (suc j) (suc k) n others (omega arith)
      | inr some ↦
          let others_more : List ℕ = digit_glyph true (n % 16) ∷ others in
          let left : (n / 16 ≡ 0 → ⊥) = λ none. omega arith in
          let same : suc (suc j) + length others ≡ suc j + length others_more = omega arith in
          rw (ne_eqb (n / 16) 0 left, same) (filled j k (n / 16) others_more (omega (arith, pow-suc 16 (suc j))) (omega arith))
    ]

-- a set of phys, by `{:08X}`
written_in_8 : (ds : List ℕ) → padded_integral (format_spec 32 0 4 8 (2 ^ 64 - 1)) false [] ds ≡ replicate (8 - length ds) 48 ++ ds
unfolding padded_integral char_count
written_in_8 ds = let short : 8 - length ds - 0 - 0 ≡ 8 - length ds = omega arith in rw (append-nil ds, short)

eight_digits : (n : ℕ) → n < 2 ^ 32
    → padded_integral (format_spec 32 0 4 8 (2 ^ 64 - 1)) false [] (digits 16 true n) ≡ last_digits 8 n []
unfolding digits
eight_digits n small = written_in_8 (digits 16 true n) ∙ filled 7 63 n [] (omega arith) (omega arith)

pub phys_text : (n : ℕ) → n < 2 ^ 32
    → 0x20 ∷ (padded_integral (format_spec 32 0 4 8 (2 ^ 64 - 1)) false [] (digits 16 true n) ++ (0x2C ∷ 0x20 ∷ [])) ≡ set_text n
phys_text n small =
    let d7 : n / 16 / 16 / 16 / 16 / 16 / 16 / 16 % 16 ≡ n / 0x10000000 = omega arith in
    let d6 : n / 16 / 16 / 16 / 16 / 16 / 16 % 16 ≡ n / 0x1000000 % 16 = omega arith in
    let d5 : n / 16 / 16 / 16 / 16 / 16 % 16 ≡ n / 0x100000 % 16 = omega arith in
    let d4 : n / 16 / 16 / 16 / 16 % 16 ≡ n / 0x10000 % 16 = omega arith in
    let d3 : n / 16 / 16 / 16 % 16 ≡ n / 0x1000 % 16 = omega arith in
    let d2 : n / 16 / 16 % 16 ≡ n / 0x100 % 16 = omega arith in
    rw (
      eight_digits n small,
      d7,
      d6,
      d5,
      d4,
      d3,
      d2,
      glyph_digit (n / 0x10000000) (omega arith),
      glyph_digit (n / 0x1000000 % 16) (omega arith),
      glyph_digit (n / 0x100000 % 16) (omega arith),
      glyph_digit (n / 0x10000 % 16) (omega arith),
      glyph_digit (n / 0x1000 % 16) (omega arith),
      glyph_digit (n / 0x100 % 16) (omega arith),
      glyph_digit (n / 16 % 16) (omega arith),
      glyph_digit (n % 16) (omega arith),
    )
