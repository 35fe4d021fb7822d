-- Nothing is lost that the readings told while they gave an `Option` (specs/Fitting.antt): `.ok()` of a reading of today is the reading of
-- then, and what a line is, its end and how many times it says are the same. Assumes nothing.
use Rattle.std.specs.Prelude.{ℕ, ◌+◌, not, Bool, true, false, ◌&&◌, cond, List, [], ◌∷◌, ◌++◌, leb, ltb, eqb, length, drop, get_or}
use Rattle.std.specs.Prelude.{Option, None, Some, is_some, unwrap_or, option_map, option_and_then, Result, Ok, Err, is_ok}
use Rattle.std.specs.Option.{option_map_or, option_or}
use Rattle.std.specs.Result.{result_ok, result_or, result_map_both, result_unwrap_or}
use mathlib.Core.Bool.{false≢true}
use Rattle.std.proofs.Common.{◌≡◌, refl, ap, ◌∙◌}
use Rattle.model.specs.Bytes.{byte, text}
use Rattle.model.specs.Server.{least_buffer}
use Rattle.model.specs.Tests.{check, given}
use Rattle.script.specs.declared.text.Reading.{Reading}
use Rattle.script.specs.Fitting as then
use Rattle.script.specs.Line.{line_kind, asked, told, untold, read_asked, byte_of, read_hex}
use Rattle.script.specs.Report.{read_times}
use Rattle.script.specs.Text.{reading, unread, digits, read_number, read_byte, read_one, either, read_on, read, whole, read_whole}

-- what one byte of a form stands for
number_fits : (line : List ℕ) (from : Reading) (base : ℕ) → result_ok (read_number line from base) ≡ then.read_number line from base
unfolding read_number then.read_number
number_fits line from base =
    let number = digits base (drop from.at line) 0 0 in
    go (eqb number.length 0) (reading (from.at + number.length) from.second from.third number.value)
  where
    go : (none : Bool) (next : Reading) → result_ok (given none (Err next) (Ok next)) ≡ given none None (Some next)
    go true next = refl
    go false next = refl

byte_fits : (line : List ℕ) (from : Reading) (byte : ℕ) → result_ok (read_byte line from byte) ≡ then.read_byte line from byte
unfolding read_byte then.read_byte
byte_fits line from byte =
    go (ltb from.at (length line)) (eqb (get_or line from.at 0) byte) (reading (from.at + 1) from.first from.second from.third)
  where
    go : (inside is : Bool) (next : Reading)
        → result_ok (check inside (Err from) (check is (Err next) (Ok next))) ≡ given (inside && is) (Some next) None
    go true true next = refl
    go true false next = refl
    go false is next = refl

one_fits : (line : List ℕ) (from : Reading) (one : ℕ) → result_ok (read_one line from one) ≡ then.read_one line from one
unfolding read_one then.read_one
one_fits line from one = go (eqb one 0x23) (eqb one 0x24)
  where
    go : (decimal hexadecimal : Bool)
        → result_ok (cond decimal (read_number line from 10) (cond hexadecimal (read_number line from 16) (read_byte line from one)))
        ≡ cond decimal (then.read_number line from 10) (cond hexadecimal (then.read_number line from 16) (then.read_byte line from one))
    go true hexadecimal = number_fits line from 10
    go false true = number_fits line from 16
    go false false = byte_fits line from one

-- past a misfit nothing fits
misfit : (line : List ℕ) (from : Reading) (form : List ℕ) → result_ok (read_on line (Err from) form) ≡ None
unfolding read_on
misfit line from [] = refl
misfit line from (one ∷ form) = misfit line (either (read_one line from one)) form

-- a form
pub read_fits : (line : List ℕ) (from : Reading) (form : List ℕ) → result_ok (read line from form) ≡ then.read line from form
unfolding read_on then.read
read_fits line from [] = refl
read_fits line from (one ∷ form) = go (λ next. read_fits line next form) (read_one line from one) (one_fits line from one)
  where
    go : ((next : Reading) → result_ok (read line next form) ≡ then.read line next form)
        → (next : Result Reading Reading) → result_ok next ≡ then.read_one line from one
        → result_ok (read_on line next form) ≡ option_and_then (λ next. then.read line next form) (then.read_one line from one)
    go rest (Ok next) is = rw (← is) (rest next)
    go rest (Err next) is = rw (← is) (misfit line next form)

-- .. and to the end of the line
pub whole_fits : (line : List ℕ) (from : Reading) (form : List ℕ) → read_whole line from form ≡ then.read_whole line from form
whole_fits line from form = rw (← read_fits line from form) (go (read line from form))
  where
    go : (now : Result Reading Reading)
        → whole line now ≡ option_and_then (λ next. given (leb (length line) next.at) (Some next) None) (result_ok now)
    go (Ok next) = refl
    go (Err next) = refl

-- what a line is: its remark fits or does not
pub kind_fits : (line : List ℕ) → line_kind line ≡ then.line_kind line
unfolding line_kind then.line_kind
kind_fits line = rw (go (read line unread (text "  - ")), read_fits line unread (text "  - ")) refl
  where
    go : (now : Result Reading Reading) → is_ok now ≡ is_some (result_ok now)
    go (Ok next) = refl
    go (Err next) = refl

-- one byte of a frame
pub hex_fits : (line : List ℕ) (from : Reading) → result_ok (read_hex line from) ≡ then.read_hex line from
unfolding read_hex then.read_hex
hex_fits line from = rw (← read_fits line from (text " $")) (go (read line from (text " $")))
  where
    go : (now : Result Reading Reading)
        → result_ok (byte_of now) ≡ option_and_then (λ next. given (leb next.third 0xFF) (Some (next.third, next)) None) (result_ok now)
    go (Ok next) = by (leb next.third 0xFF)
      where
        by : (t : Bool) → result_ok {T = ℕ × Reading} (given t (Ok (next.third, next)) (Err next)) ≡ given t (Some (next.third, next)) None
        by true = refl
        by false = refl
    go (Err next) = refl

-- how many times a report is made
pub times_fits : (line : List ℕ) (from : Reading) → read_times line from ≡ then.read_times line from
unfolding read_times then.read_times
times_fits line from = rw (← read_fits line from (text "# times: ")) (go (read line from (text "# times: ")))
  where
    go : (now : Result Reading Reading)
        → result_unwrap_or now (reading from.at from.first from.second 1) ≡ unwrap_or (result_ok now) (reading from.at from.first from.second 1)
    go (Ok next) = refl
    go (Err next) = refl

-- ---- What a request's line asks. A byte that stands for itself leaves the numbers: past the length of the buffer and the colon the
-- source group is the last but one, and past a colon alone the last.

-- no byte of a form stands for a number
abbrev pub plain : List ℕ → Bool
plain [] = true
plain (one ∷ form) = not (eqb one 0x23) && (not (eqb one 0x24) && plain form)

-- what fits has the last two numbers of before
abbrev pub Kept : Reading → Option Reading → Type 0
Kept from None = Unit {0}
Kept from (Some next) = (next.second ≡ from.second) × (next.third ≡ from.third)

-- .. or has this as the last but one
abbrev pub BeforeLast : ℕ → Option Reading → Type 0
BeforeLast n None = Unit {0}
BeforeLast n (Some next) = next.second ≡ n

module _ (line : List ℕ) where
  -- a byte that stands for itself leaves the numbers
  byte_kept : (from : Reading) (byte : ℕ) → Kept from (then.read_byte line from byte)
  unfolding then.read_byte
  byte_kept from byte = go (ltb from.at (length line) && eqb (get_or line from.at 0) byte)
    where
      go : (t : Bool) → Kept from (given t (Some (reading (from.at + 1) from.first from.second from.third)) None)
      go true = (refl, refl)
      go false = tt

  -- step by step
  kept_on : (from next : Reading) → Kept from (Some next) → (last : Option Reading) → Kept next last → Kept from last
  kept_on from next is None on = tt
  kept_on from next is (Some last) on = (on.0 ∙ is.0, on.1 ∙ is.1)

  -- so does a form without numbers
  plain_kept : (form : List ℕ) → plain form ≡ true → (from : Reading) → Kept from (then.read line from form)
  unfolding then.read then.read_one
  plain_kept [] bare from = (refl, refl)
  plain_kept (one ∷ form) bare from = go (plain_kept form) (eqb one 0x23) (eqb one 0x24) bare
    where
      Rest : Type 0
      Rest = plain form ≡ true → (next : Reading) → Kept next (then.read line next form)

      on : Rest → plain form ≡ true → (next : Option Reading) → Kept from next → Kept from (option_and_then (λ next. then.read line next form) next)
      on rest bare None is = tt
      on rest bare (Some next) is = kept_on from next is (then.read line next form) (rest bare next)

      go : Rest → (decimal hexadecimal : Bool) → (not decimal && (not hexadecimal && plain form)) ≡ true
          → Kept from (option_and_then (λ next. then.read line next form)
          (cond decimal (then.read_number line from 10) (cond hexadecimal (then.read_number line from 16) (then.read_byte line from one))))
      go rest true hexadecimal bare = absurd (false≢true bare)
      go rest false true bare = absurd (false≢true bare)
      go rest false false bare = on rest bare (then.read_byte line from one) (byte_kept from one)

  -- a form in two parts is read by one and then by the other
  parts_read : (from : Reading) (a b : List ℕ)
      → then.read line from (a ++ b) ≡ option_and_then (λ next. then.read line next b) (then.read line from a)
  unfolding then.read
  parts_read from [] b = refl
  parts_read from (one ∷ a) b = go (λ next. parts_read next a b) (then.read_one line from one)
    where
      go : ((next : Reading) → then.read line next (a ++ b) ≡ option_and_then (λ next. then.read line next b) (then.read line next a))
          → (next : Option Reading)
          → option_and_then (λ next. then.read line next (a ++ b)) next
          ≡ option_and_then (λ next. then.read line next b) (option_and_then (λ next. then.read line next a) next)
      go rest None = refl
      go rest (Some next) = rest next

  -- the length of the buffer, after which the last number of before is the last but one, and the colon
  length_past : (source now : Reading) → Kept source (Some now) → BeforeLast source.third (then.read line now (text "#:"))
  unfolding then.read then.read_one then.read_number
  length_past source now is = let number = digits 10 (drop now.at line) 0 0 in
      go (eqb number.length 0) (reading (now.at + number.length) now.second now.third number.value) is.1
    where
      colon : (next : Reading) → next.second ≡ source.third → (last : Option Reading) → Kept next last → BeforeLast source.third last
      colon next at None on = tt
      colon next at (Some last) on = on.0 ∙ at

      go : (none : Bool) (next : Reading) → next.second ≡ source.third
          → BeforeLast source.third (option_and_then (λ next. then.read line next (text ":")) (given none None (Some next)))
      go true next at = tt
      go false next at = colon next at (then.read line next (text ":")) (plain_kept (text ":") refl next)

  -- both
  told_source : (source : Reading) → BeforeLast source.third (then.read line source (text ", buffer of #:"))
  told_source source =
      rw (parts_read source (text ", buffer of ") (text "#:"))
      (go (then.read line source (text ", buffer of ")) (plain_kept (text ", buffer of ") refl source))
    where
      go : (now : Option Reading) → Kept source now
          → BeforeLast source.third (option_and_then (λ next. then.read line next (text "#:")) now)
      go None is = tt
      go (Some now) is = length_past source now is

  -- so what is asked has the source group from before the length of the buffer in either definition
  pub asked_fits : (from : Reading) → result_ok (read_asked line from) ≡ then.read_asked line from
  unfolding read_asked then.read_asked then.read_asked_of
  asked_fits from = rw (← read_fits line from (text "from #")) (go (read line from (text "from #")))
    where
      split : (a b : Result Reading Reading)
          → result_ok (result_or (result_map_both told told a) (result_map_both untold untold b))
          ≡ option_or (option_map told (result_ok a)) (option_map untold (result_ok b))
      split (Ok a) b = refl
      split (Err a) (Ok b) = refl
      split (Err a) (Err b) = refl

      same : (source : Reading) (a b : Option Reading) → BeforeLast source.third a → Kept source b
          → option_or (option_map told a) (option_map untold b)
          ≡ option_map_or (λ past. Some (asked source.third past.third past)) a (option_map (asked source.third least_buffer) b)
      same source (Some a) b is _ = ap (λ n. Some (asked n a.third a)) is
      same source None (Some b) _ is = ap (λ n. Some (asked n least_buffer b)) is.1
      same source None None _ _ = refl

      go : (source : Result Reading Reading)
          → result_ok (result_or (result_map_both told told (read_on line source (text ", buffer of #:")))
          (result_map_both untold untold (read_on line source (text ":"))))
          ≡ option_and_then (then.read_asked_of line) (result_ok source)
      go (Ok source) =
          split (read line source (text ", buffer of #:")) (read line source (text ":"))
          ∙ rw (read_fits line source (text ", buffer of #:"), read_fits line source (text ":"))
          (same source (then.read line source (text ", buffer of #:")) (then.read line source (text ":")) (told_source source)
          (plain_kept (text ":") refl source))
      go (Err source) =
          split (read_on line (Err source) (text ", buffer of #:")) (read_on line (Err source) (text ":"))
          ∙ rw (misfit line source (text ", buffer of #:"), misfit line source (text ":")) refl
