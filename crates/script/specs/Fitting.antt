-- The readings as they were while they gave an `Option`, and told nothing of a misfit: from docs/DESIGN-PASS.md to docs/LOOK-BACK.md. The
-- definitions of then, word for word; `proofs/Fitting.antt` proves that `.ok()` of today's readings gives them.
use Rattle.std.specs.Prelude.{ℕ, ◌+◌, not, ◌&&◌, ◌||◌, cond, List, [], ◌∷◌, leb, ltb, eqb, length, drop, get_or}
use Rattle.std.specs.Prelude.{Option, None, Some, is_some, unwrap_or, option_map}
use Rattle.std.specs.Option.{option_and_then, option_map_or}
use Rattle.model.specs.Bytes.{byte, text}
use Rattle.model.specs.Server.{least_buffer}
use Rattle.model.specs.Tests.{given}
use Rattle.script.specs.declared.line.Asked.{Asked}
use Rattle.script.specs.declared.line.Line.{Line}
use Rattle.script.specs.declared.line.Line.TheVariants.{Heading, Request, Reach, Report, Idle}
use Rattle.script.specs.declared.text.Reading.{Reading}
use Rattle.script.specs.Line.{asked}
use Rattle.script.specs.Text.{reading, unread, digits}

-- reads a number, of at least one digit
unfoldable pub read_number : List ℕ → Reading → ℕ → Option Reading
read_number line from base =
    let number = digits base (drop from.at line) 0 0 in
    given (eqb number.length 0) None
    (Some (reading (from.at + number.length) from.second from.third number.value))

-- reads this very byte
unfoldable pub read_byte : List ℕ → Reading → ℕ → Option Reading
read_byte line from byte =
    given (ltb from.at (length line) && eqb (get_or line from.at 0) byte)
    (Some (reading (from.at + 1) from.first from.second from.third))
    None

-- reads what one byte of a form stands for
unfoldable pub read_one : List ℕ → Reading → ℕ → Option Reading
read_one line from form =
    cond (eqb form 0x23) (read_number line from 10)
    (cond (eqb form 0x24) (read_number line from 16)
    (read_byte line from form))

-- reads by each byte of a form in turn
unfoldable pub read : List ℕ → Reading → List ℕ → Option Reading
read line from [] = Some from
read line from (one ∷ form) = option_and_then (λ next. read line next form) (read_one line from one)

-- .. and to the end of the line
abbrev pub read_whole : List ℕ → Reading → List ℕ → Option Reading
read_whole line from form =
    option_and_then (λ next. given (leb (length line) next.at) (Some next) None) (read line from form)

-- An empty line and a remark are nothing to do; a heading begins with no space; of an operation, which stands after two
-- spaces, the first letter, f, r or another, tells its kind.
unfoldable pub line_kind : List ℕ → Line
line_kind line =
    given (eqb (length line) 0 || is_some (read line unread (text "  - "))) Idle
    (given (not (eqb (byte line 0) 0x20)) Heading
    (given (eqb (byte line 2) 0x66) Request
    (given (eqb (byte line 2) 0x72) Reach
    Report)))

-- past the source group: the length of the lent buffer, which is the least that H5 allows where it is left out
unfoldable pub read_asked_of : List ℕ → Reading → Option Asked
read_asked_of line source =
    option_map_or (λ told. Some (asked source.third told.third told))
    (read line source (text ", buffer of #:"))
    (option_map (asked source.third least_buffer) (read line source (text ":")))

-- the source group, the length of the lent buffer, and the reading past them
unfoldable pub read_asked : List ℕ → Reading → Option Asked
read_asked line from = option_and_then (read_asked_of line) (read line from (text "from #"))

-- one byte of a frame, and the reading past it
unfoldable pub read_hex : List ℕ → Reading → Option (ℕ × Reading)
read_hex line from =
    option_and_then (λ next. given (leb next.third 0xFF) (Some (next.third, next)) None) (read line from (text " $"))

-- how many times, which may be left out, as the last number
unfoldable pub read_times : List ℕ → Reading → Reading
read_times line from = unwrap_or (read line from (text "# times: ")) (reading from.at from.first from.second 1)
