-- Reading a line of a script by a form: # stands for a decimal number, $ for a hexadecimal one, any other byte for itself.
use Rattle.std.specs.Prelude.{ℕ, ◌+◌, ◌-◌, ◌*◌, min, cond, List, [], ◌∷◌, leb, ltb, eqb, length, drop, get_or, Option, None, Some, Result, Ok, Err}
use Rattle.std.specs.Option.{option_map_or}
use Rattle.model.specs.Tests.{within, check, given}
use Rattle.script.specs.declared.text.Number.{Number}
use Rattle.script.specs.declared.text.Reading.{Reading}

abbrev pub reading : ℕ → ℕ → ℕ → ℕ → Reading
reading at first second third = record { at = at; first = first; second = second; third = third }

-- nothing is read yet
abbrev pub unread : Reading
unread = reading 0 0 0 0

-- the value, if a digit of the base has it
abbrev pub below : ℕ → ℕ → Option ℕ
below base value = given (ltb value base) (Some value) None

-- the value of a digit of a base, in uppercase; no other byte has one
unfoldable pub digit : ℕ → ℕ → Option ℕ
digit base b = cond (within 0x30 0x39 b) (below base (b - 0x30)) (cond (within 0x41 0x46 b) (below base (b - 0x41 + 10)) None)

-- a number of 32 bits; what is larger counts as the largest
abbrev pub capped : ℕ → ℕ
capped n = min n 0xFFFFFFFF

-- a number of a base with one more digit
abbrev pub longer : ℕ → ℕ → ℕ → ℕ
longer value base d = capped (value * base + d)

-- reads digits up to the first byte that is none, on from a value and how many were read
unfoldable pub digits : ℕ → List ℕ → ℕ → ℕ → Number
digits base [] value length = record { value = value; length = length }
digits base (b ∷ bytes) value length =
    option_map_or (λ d. digits base bytes (longer value base d) (length + 1)) (digit base b)
    (record { value = value; length = length })

-- reads a number, of at least one digit; of none the number is 0, and does not fit
unfoldable pub read_number : List ℕ → Reading → ℕ → Result Reading Reading
read_number line from base =
    let number = digits base (drop from.at line) 0 0 in
    let next = reading (from.at + number.length) from.second from.third number.value in
    given (eqb number.length 0) (Err next) (Ok next)

-- reads this very byte; another is passed over, and does not fit
unfoldable pub read_byte : List ℕ → Reading → ℕ → Result Reading Reading
read_byte line from byte =
    let next = reading (from.at + 1) from.first from.second from.third in
    check (ltb from.at (length line)) (Err from)
    (check (eqb (get_or line from.at 0) byte) (Err next)
    (Ok next))

-- reads what one byte of a form stands for
unfoldable pub read_one : List ℕ → Reading → ℕ → Result Reading Reading
read_one line from form =
    cond (eqb form 0x23) (read_number line from 10)
    (cond (eqb form 0x24) (read_number line from 16)
    (read_byte line from form))

-- the reading, whether it fits or not
abbrev pub either : Result Reading Reading → Reading
either (Ok next) = next
either (Err next) = next

-- on from what fits, or does not; what follows a misfit does not fit either, and is read all the same
abbrev pub read_next : List ℕ → Result Reading Reading → ℕ → Result Reading Reading
read_next line (Ok from) one = read_one line from one
read_next line (Err from) one = Err (either (read_one line from one))

-- .. by each byte of a form in turn
unfoldable pub read_on : List ℕ → Result Reading Reading → List ℕ → Result Reading Reading
read_on line so_far [] = so_far
read_on line so_far (one ∷ form) = read_on line (read_next line so_far one) form

-- reads by a form
abbrev pub read : List ℕ → Reading → List ℕ → Result Reading Reading
read line from form = read_on line (Ok from) form

-- .. and to the end of the line
abbrev pub whole : List ℕ → Result Reading Reading → Option Reading
whole line (Ok next) = given (leb (length line) next.at) (Some next) None
whole line (Err next) = None

abbrev pub read_whole : List ℕ → Reading → List ℕ → Option Reading
read_whole line from form = whole line (read line from form)
