-- The number of a house refusal, digit by digit: one below ten, and two from there on (#103). Assumes nothing.
use Prim.Native.Nat.{ℕ, ◌+◌, ◌/◌, ◌%◌, ◌<◌, ◌≤◌}
use borrow.Author.Tests.{le-leb}
use native.Mathlib.Omega.{arith}
use mathlib.Core.Path.{◌≡◌, ap, sym, subst⁻¹}
use mathlib.Core.List.{List, [], ◌∷◌, ◌++◌}
use lib.ListN.{length, drop}
use Rattle.std.specs.Fmt.{decimal}
use Rattle.std.proofs.lemmas.Fmt.{decimal_digit, decimal_step}
use Rattle.std.proofs.lemmas.List.{drop_all}
use Rattle.model.specs.declared.House.{House}
use Rattle.model.specs.declared.House.TheVariants.{PhyNumber, PhyGroup, IllegalTable, SourceGroup, ShortBuffer}
use Rattle.model.specs.declared.House.TheVariants.{CutFrame, NoSuchPhy, EventSource, Amount, WrongFrame}
use Rattle.model.specs.House.{house_number}
use Rattle.model.specs.Server.{over}
use Rattle.spelling.specs.Spelling.{hex_digit}

below_ten : (d : ℕ) → d < 10 → 48 + d ≡ hex_digit d
unfolding hex_digit
below_ten d low = rw (le-leb d 9 (omega arith))

number_small : (house : House) → house_number house < 100
number_small PhyNumber = omega arith
number_small PhyGroup = omega arith
number_small IllegalTable = omega arith
number_small SourceGroup = omega arith
number_small ShortBuffer = omega arith
number_small CutFrame = omega arith
number_small NoSuchPhy = omega arith
number_small EventSource = omega arith
number_small Amount = omega arith
number_small WrongFrame = omega arith

pub one_digit : (house : House) → house_number house < 10 → decimal (house_number house) ≡ hex_digit (house_number house) ∷ []
one_digit house low = let n = house_number house in rw (decimal_digit n low, below_ten n low)

pub two_digits : (house : House) → 10 ≤ house_number house
    → decimal (house_number house) ≡ hex_digit (house_number house / 10) ∷ hex_digit (house_number house % 10) ∷ []
two_digits house high =
    let n = house_number house in
    let small : n < 100 = number_small house in
    rw (
      decimal_step n high (omega arith),
      decimal_digit (n / 10) (omega arith),
      below_ten (n / 10) (omega arith),
      below_ten (n % 10) (omega arith),
    )

-- A text with these digits, over what stood there: four bytes of five, and all five.
pub laid_one : (text digits old : List ℕ) (d : ℕ) → digits ≡ d ∷ [] → text ≡ 0x20 ∷ 0x48 ∷ d ∷ 0x0A ∷ []
    → text ++ drop 4 old ≡ over old (0x20 ∷ 0x48 ∷ (digits ++ (0x0A ∷ [])))
laid_one text digits old d one written =
    subst⁻¹ (λ ds. text ++ drop 4 old ≡ over old (0x20 ∷ 0x48 ∷ (ds ++ (0x0A ∷ [])))) one (ap (λ t. t ++ drop 4 old) written)

pub laid_two : (digits old : List ℕ) (d e : ℕ) → digits ≡ d ∷ e ∷ [] → length old ≤ 5
    → 0x20 ∷ 0x48 ∷ d ∷ e ∷ 0x0A ∷ [] ≡ over old (0x20 ∷ 0x48 ∷ (digits ++ (0x0A ∷ [])))
laid_two digits old d e two all =
    subst⁻¹ (λ ds. 0x20 ∷ 0x48 ∷ d ∷ e ∷ 0x0A ∷ [] ≡ over old (0x20 ∷ 0x48 ∷ (ds ++ (0x0A ∷ [])))) two
    (ap (λ rest. 0x20 ∷ 0x48 ∷ d ∷ e ∷ 0x0A ∷ rest) (sym (drop_all 5 old all)))
