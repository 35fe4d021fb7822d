-- The readings with flags that these functions gave before docs/DESIGN-PASS.md: `fits` stood beside how far the line was read and the
-- last three numbers, and `whole`, that the line ends there too. The definitions here are those of then. Nothing that they told is
-- lost: a reading is `Ok` exactly where it fitted, and has the same place and numbers in either case. Assumes nothing.
use Rattle.std.specs.Prelude.{ℕ, zero, suc, ◌+◌, ◌-◌, ◌*◌, Bool, true, false, ◌&&◌, cond, List, [], ◌∷◌, leb, ltb, eqb, length}
use Rattle.std.specs.Prelude.{drop, get_or, None, Some, Result, Ok, Err}
use Rattle.std.specs.Result.{result_or, result_map_both}
use Rattle.std.specs.Option.{option_map_or}
use Rattle.std.proofs.Common.{◌≡◌, refl, sym, ap, ◌∙◌, arith}
use borrow.Author.Tests.{lt-ltb, le-ltb, ne_eqb}
use Rattle.model.specs.Bytes.{text}
use Rattle.model.specs.Server.{least_buffer}
use Rattle.model.specs.Tests.{within, check, given}
use Rattle.script.specs.declared.line.Asked.{Asked}
use Rattle.script.specs.declared.text.Number.{Number}
use Rattle.script.specs.declared.text.Reading.{Reading}
use Rattle.script.specs.Text.{reading, below, digit, capped, longer, digits, read_number, read_byte, read_one, either, read_next, read_on, read}
use Rattle.script.specs.Text.{whole, read_whole}
use Rattle.script.specs.Line.{told, untold, read_asked, byte_of, read_hex}

-- ---- The definitions of then.

pub record Flagged : Type 0 where
  pub at : ℕ
  pub fits : Bool
  pub whole : Bool
  pub first : ℕ
  pub second : ℕ
  pub third : ℕ

abbrev pub flagged : ℕ → Bool → Bool → ℕ → ℕ → ℕ → Flagged
flagged at fits whole first second third =
    record { at = at; fits = fits; whole = whole; first = first; second = second; third = third }

-- digits that were read: the number, and the place after the last of them
pub record Ended : Type 0 where
  pub value : ℕ
  pub end : ℕ

-- 255 is no digit's
abbrev pub digit_then : ℕ → ℕ
digit_then b = cond (within 0x30 0x39 b) (b - 0x30) (cond (within 0x41 0x46 b) (b - 0x41 + 10) 255)

abbrev pub longer_then : ℕ → ℕ → ℕ → ℕ
longer_then value base d = cond (eqb base 16) (capped (value * 16 + d)) (capped (value * 10 + d))

unfoldable pub digits_then : ℕ → List ℕ → ℕ → ℕ → Ended
digits_then base [] value end = record { value = value; end = end }
digits_then base (b ∷ bytes) value end =
    cond (ltb (digit_then b) base)
    (digits_then base bytes (longer_then value base (digit_then b)) (end + 1))
    (record { value = value; end = end })

abbrev pub number_then : List ℕ → Flagged → ℕ → Flagged
number_then line from base =
    let number = digits_then base (drop from.at line) 0 from.at in
    flagged number.end (from.fits && ltb from.at number.end) false from.second from.third number.value

abbrev pub byte_then : List ℕ → Flagged → ℕ → Flagged
byte_then line from byte =
    cond (ltb from.at (length line))
    (flagged (from.at + 1) (from.fits && eqb (get_or line from.at 0) byte) from.whole from.first from.second from.third)
    (flagged from.at false from.whole from.first from.second from.third)

abbrev pub one_then : List ℕ → Flagged → ℕ → Flagged
one_then line from form =
    cond (eqb form 0x23) (number_then line from 10)
    (cond (eqb form 0x24) (number_then line from 16)
    (byte_then line from form))

unfoldable pub each_then : List ℕ → Flagged → List ℕ → Flagged
each_then line from [] = from
each_then line from (one ∷ form) = each_then line (one_then line from one) form

abbrev pub ended : List ℕ → Flagged → Flagged
ended line r = flagged r.at r.fits (r.fits && leb (length line) r.at) r.first r.second r.third

abbrev pub read_then : List ℕ → Flagged → List ℕ → Flagged
read_then line from form = ended line (each_then line from form)

abbrev pub asked_then : List ℕ → Flagged → Flagged
asked_then line from =
    let source = read_then line from (text "from #") in
    let told = read_then line source (text ", buffer of #:") in
    let untold = read_then line source (text ":") in
    cond told.fits told
    (flagged untold.at untold.fits untold.whole untold.first untold.third least_buffer)

abbrev pub hex_then : List ℕ → Flagged → Flagged
hex_then line from =
    let next = read_then line from (text " $") in
    flagged next.at (next.fits && leb next.third 0xFF) next.whole next.first next.second next.third

-- ---- What they say, without flags.

abbrev pub place : Flagged → Reading
place f = reading f.at f.first f.second f.third

abbrev pub fitting : Bool → Reading → Result Reading Reading
fitting true next = Ok next
fitting false next = Err next

abbrev pub unflagged : Flagged → Result Reading Reading
unflagged f = fitting f.fits (place f)

-- ---- They are the same.

-- after a misfit nothing fits, whatever is read
abbrev pub after : Bool → Result Reading Reading → Result Reading Reading
after true r = r
after false r = Err (either r)

-- a digit of base 10 or 16 is below 255
digit_same : (base b : ℕ) → ltb 255 base ≡ false → digit base b ≡ cond (ltb (digit_then b) base) (Some (digit_then b)) None
unfolding digit
digit_same base b small = go (within 0x30 0x39 b) (within 0x41 0x46 b)
  where
    one : (value : ℕ) → below base value ≡ cond (ltb value base) (Some value) None
    one value = by (ltb value base)
      where
        by : (t : Bool) → given t (Some value) None ≡ cond t (Some value) None
        by true = refl
        by false = refl

    go : (decimal letter : Bool)
        → cond decimal (below base (b - 0x30)) (cond letter (below base (b - 0x41 + 10)) None)
        ≡ (let d = cond decimal (b - 0x30) (cond letter (b - 0x41 + 10) 255) in cond (ltb d base) (Some d) None)
    go true letter = one (b - 0x30)
    go false true = one (b - 0x41 + 10)
    go false false = rw small

module _ (base : ℕ) (small : ltb 255 base ≡ false) (same : (value d : ℕ) → longer_then value base d ≡ longer value base d) where
  abbrev ended_of : ℕ → Number → Ended
  ended_of at number = record { value = number.value; end = at + number.length }

  digits_same : (bytes : List ℕ) (value at n : ℕ) → digits_then base bytes value (at + n) ≡ ended_of at (digits base bytes value n)
  unfolding digits_then digits
  digits_same [] value at n = refl
  digits_same (b ∷ bytes) value at n =
      let e : at + n + 1 ≡ at + (n + 1) = omega arith in
      rw (digit_same base b small)
      (go (ltb (digit_then b) base) (rw (same, e) (digits_same bytes (longer value base (digit_then b)) at (n + 1))))
    where
      go : (t : Bool)
          → digits_then base bytes (longer_then value base (digit_then b)) (at + n + 1)
          ≡ ended_of at (digits base bytes (longer value base (digit_then b)) (n + 1))
          → cond t (digits_then base bytes (longer_then value base (digit_then b)) (at + n + 1)) (record { value = value; end = at + n })
          ≡ ended_of at (option_map_or (λ d. digits base bytes (longer value base d) (n + 1)) (cond t (Some (digit_then b)) None)
          (record { value = value; length = n }))
      go true rest = rest
      go false rest = refl

  number_same : (line : List ℕ) (f : Flagged) → unflagged (number_then line f base) ≡ after f.fits (read_number line (place f) base)
  unfolding read_number
  number_same line f =
      let e : f.at + 0 ≡ f.at = omega arith in
      let ends = rw e at (digits_same (drop f.at line) 0 f.at 0) in
      let number : Number = digits base (drop f.at line) 0 0 in
      rw ends (go f.fits number.value number.length)
    where
      next : ℕ → ℕ → Reading
      next value n = reading (f.at + n) f.second f.third value

      go : (fits : Bool) (value n : ℕ)
          → fitting (fits && ltb f.at (f.at + n)) (next value n) ≡ after fits (given (eqb n 0) (Err (next value n)) (Ok (next value n)))
      go true value zero = rw (le-ltb f.at (f.at + 0) (omega arith))
      go true value (suc n) = rw (lt-ltb f.at (f.at + suc n) (omega arith), ne_eqb (suc n) 0 (omega arith))
      go false value n = by (eqb n 0)
        where
          by : (t : Bool) → fitting false (next value n) ≡ after false (given t (Err (next value n)) (Ok (next value n)))
          by true = refl
          by false = refl

byte_same : (line : List ℕ) (f : Flagged) (byte : ℕ) → unflagged (byte_then line f byte) ≡ after f.fits (read_byte line (place f) byte)
unfolding read_byte
byte_same line f byte = go f.fits (ltb f.at (length line)) (eqb (get_or line f.at 0) byte)
  where
    go : (fits inside is : Bool)
        → unflagged (cond inside (flagged (f.at + 1) (fits && is) f.whole f.first f.second f.third)
        (flagged f.at false f.whole f.first f.second f.third))
        ≡ after fits (check inside (Err (place f)) (check is (Err (reading (f.at + 1) f.first f.second f.third)) (Ok (reading (f.at + 1) f.first f.second f.third))))
    go true true true = refl
    go true true false = refl
    go true false is = refl
    go false true true = refl
    go false true false = refl
    go false false is = refl

one_same : (line : List ℕ) (f : Flagged) (one : ℕ) → unflagged (one_then line f one) ≡ after f.fits (read_one line (place f) one)
unfolding read_one
one_same line f one = go (eqb one 0x23) (eqb one 0x24)
  where
    go : (decimal hexadecimal : Bool)
        → unflagged (cond decimal (number_then line f 10) (cond hexadecimal (number_then line f 16) (byte_then line f one)))
        ≡ after f.fits (cond decimal (read_number line (place f) 10) (cond hexadecimal (read_number line (place f) 16) (read_byte line (place f) one)))
    go true hexadecimal = number_same 10 refl (λ value d. refl) line f
    go false true = number_same 16 refl (λ value d. refl) line f
    go false false = byte_same line f one

next_same : (line : List ℕ) (f : Flagged) (one : ℕ) → unflagged (one_then line f one) ≡ read_next line (unflagged f) one
next_same line f one = one_same line f one ∙ go f.fits
  where
    go : (fits : Bool) → after fits (read_one line (place f) one) ≡ read_next line (fitting fits (place f)) one
    go true = refl
    go false = refl

pub on_same : (line : List ℕ) (f : Flagged) (form : List ℕ) → unflagged (read_then line f form) ≡ read_on line (unflagged f) form
unfolding each_then read_on
on_same line f [] = refl
on_same line f (one ∷ form) = on_same line (one_then line f one) form ∙ ap (λ r. read_on line r form) (next_same line f one)

-- past a misfit the place and the numbers are those that `read` gives from there, and nothing fits
past_same : (line : List ℕ) (from : Reading) (form : List ℕ) → read_on line (Err from) form ≡ fitting false (either (read line from form))
unfolding read_on
past_same line from [] = refl
past_same line from (one ∷ form) =
    past_same line (either (read_one line from one)) form ∙ go (read_one line from one) (past_same line (either (read_one line from one)) form)
  where
    go : (next : Result Reading Reading) → read_on line (Err (either next)) form ≡ fitting false (either (read line (either next) form))
        → fitting false (either (read line (either next) form)) ≡ fitting false (either (read_on line next form))
    go (Ok next) past = refl
    go (Err next) past = rw past

-- the reading past a byte of a frame, with the byte as the last number
abbrev pub byte_last : ℕ × Reading → Reading
byte_last read = reading read.1.at read.1.first read.1.second read.0

module _ (line : List ℕ) (f : Flagged) where
  -- `read` is `Ok` exactly where it fitted, and has the place and the numbers in either case
  pub read_tells_still : (form : List ℕ) → unflagged (read_then line f form) ≡ after f.fits (read line (place f) form)
  read_tells_still form = on_same line f form ∙ go f.fits (place f)
    where
      go : (fits : Bool) (from : Reading) → read_on line (fitting fits from) form ≡ after fits (read line from form)
      go true from = refl
      go false from = past_same line from form

  -- so is `read_hex`, with the byte as the last number (and what `whole` told of it, `read_whole` tells by the same form)
  pub hex_tells_still : unflagged (hex_then line f) ≡ after f.fits (result_map_both byte_last (λ next. next) (read_hex line (place f)))
  unfolding read_hex
  hex_tells_still =
      let next : Flagged = read_then line f (text " $") in
      small_then next.fits (place next) ∙ ap small (read_tells_still (text " $")) ∙ sym (small_now f.fits (read line (place f) (text " $")))
    where
      small : Result Reading Reading → Result Reading Reading
      small (Ok next) = fitting (leb next.third 0xFF) next
      small (Err next) = Err next

      small_then : (fits : Bool) (next : Reading) → fitting (fits && leb next.third 0xFF) next ≡ small (fitting fits next)
      small_then true next = refl
      small_then false next = refl

      small_now : (fits : Bool) (now : Result Reading Reading)
          → after fits (result_map_both byte_last (λ next. next) (byte_of now)) ≡ small (after fits now)
      small_now true (Ok next) = go (leb next.third 0xFF)
        where
          go : (t : Bool) → result_map_both byte_last (λ next. next) (given t (Ok (next.third, next)) (Err next)) ≡ fitting t next
          go true = refl
          go false = refl
      small_now false (Ok next) = go (leb next.third 0xFF)
        where
          go : (t : Bool)
              → after false (result_map_both byte_last (λ next. next) (given t (Ok (next.third, next)) (Err next))) ≡ fitting false next
          go true = refl
          go false = refl
      small_now true (Err next) = refl
      small_now false (Err next) = refl

-- a reading that fits, with a flag for what is not asked of it
abbrev pub fits_yet : Reading → Bool → Flagged
fits_yet from end = flagged from.at true end from.first from.second from.third

module _ (line : List ℕ) (from : Reading) (end : Bool) where
  -- `read_whole` has the reading where all fitted and the line ended there
  pub read_whole_tells_still : (form : List ℕ)
      → read_whole line from form ≡ (let f = read_then line (fits_yet from end) form in cond f.whole (Some (place f)) None)
  read_whole_tells_still form = let f = each_then line (fits_yet from end) form in rw (← on_same line (fits_yet from end) form) (go f.fits (place f))
    where
      go : (fits : Bool) (next : Reading)
          → whole line (fitting fits next) ≡ cond (fits && leb (length line) next.at) (Some next) None
      go true next = by (leb (length line) next.at)
        where
          by : (t : Bool) → given t (Some next) None ≡ cond t (Some next) None
          by true = refl
          by false = refl
      go false next = refl

  -- what `read_asked` gave: the place, and the source and the length as the last two numbers
  abbrev pub numbers : Asked → Reading
  numbers asked = reading asked.after.at asked.after.first asked.source asked.room

  pub asked_tells_still : result_map_both numbers numbers (read_asked line from) ≡ unflagged (asked_then line (fits_yet from end))
  unfolding read_asked
  asked_tells_still =
      let source : Flagged = read_then line (fits_yet from end) (text "from #") in
      let told_of : Flagged = read_then line source (text ", buffer of #:") in
      let untold_of : Flagged = read_then line source (text ":") in
      rw (← on_same line (fits_yet from end) (text "from #"), ← on_same line source (text ", buffer of #:"), ← on_same line source (text ":"))
      (go told_of.fits untold_of.fits told_of.whole untold_of.whole (place told_of) (place untold_of))
    where
      go : (t u v w : Bool) (a b : Reading)
          → result_map_both numbers numbers
          (result_or (result_map_both told told (fitting t a)) (result_map_both untold untold (fitting u b)))
          ≡ unflagged (cond t (flagged a.at t v a.first a.second a.third) (flagged b.at u w b.first b.third least_buffer))
      go true u v w a b = refl
      go false true v w a b = refl
      go false false v w a b = refl
