-- How answers are spelled: each after a space.
use Rattle.std.specs.Prelude.{ℕ, ◌+◌, ◌-◌, ◌/◌, ◌%◌, cond, List, [], ◌∷◌, ◌++◌, leb, take}
use Rattle.std.specs.Fmt.{decimal}
use Rattle.std.specs.List.{flat_map}
use Rattle.model.specs.declared.House.{House}
use Rattle.model.specs.House.{house_number}

-- the digit of a value below 16, in uppercase; `?` stands for any other
unfoldable pub hex_digit : ℕ → ℕ
hex_digit v = cond (leb v 9) (0x30 + v) (cond (leb v 15) (0x41 + (v - 10)) 0x3F)

-- a house refusal, as H4 or H10, and a newline
abbrev pub house_text : House → List ℕ
house_text house = 0x20 ∷ 0x48 ∷ (decimal (house_number house) ++ (0x0A ∷ []))

-- a set of phys as eight digits, a comma and a space
abbrev pub set_text : ℕ → List ℕ
set_text n =
    0x20
    ∷ hex_digit (n / 0x10000000)
    ∷ hex_digit (n / 0x1000000 % 16)
    ∷ hex_digit (n / 0x100000 % 16)
    ∷ hex_digit (n / 0x10000 % 16)
    ∷ hex_digit (n / 0x1000 % 16)
    ∷ hex_digit (n / 0x100 % 16)
    ∷ hex_digit (n / 0x10 % 16)
    ∷ hex_digit (n % 16)
    ∷ 0x2C
    ∷ 0x20
    ∷ []

-- a byte as two digits after a space
abbrev pub byte_text : ℕ → List ℕ
byte_text b = 0x20 ∷ hex_digit (b / 16) ∷ hex_digit (b % 16) ∷ []

-- a response, of which at most 1,364 bytes are spelled, and a newline
abbrev pub response_text : List ℕ → List ℕ
response_text response = flat_map byte_text (take 1364 response) ++ (0x0A ∷ [])
