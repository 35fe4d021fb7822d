-- The lines of a script: what each is, and what a request's line asks.
use Rattle.std.specs.Prelude.{ℕ, not, ◌||◌, List, leb, eqb, length, Result, Ok, Err, is_ok}
use Rattle.std.specs.Result.{result_or, result_map_both}
use Rattle.model.specs.Bytes.{byte, text}
use Rattle.model.specs.Server.{least_buffer}
use Rattle.model.specs.Tests.{given}
use Rattle.script.specs.declared.line.Line.{Line}
use Rattle.script.specs.declared.line.Line.TheVariants.{Heading, Request, Reach, Report, Idle}
use Rattle.script.specs.declared.line.Asked.{Asked}
use Rattle.script.specs.declared.text.Reading.{Reading}
use Rattle.script.specs.Text.{unread, read, read_on}

-- An empty line and a remark are nothing to do; a heading begins with no space; of an operation, which stands after two
-- spaces, the first letter, f, r or another, tells its kind.
unfoldable pub line_kind : List ℕ → Line
line_kind line =
    given (eqb (length line) 0 || is_ok (read line unread (text "  - "))) Idle
    (given (not (eqb (byte line 0) 0x20)) Heading
    (given (eqb (byte line 2) 0x66) Request
    (given (eqb (byte line 2) 0x72) Reach
    Report)))

-- what a request's line asks, and the reading past it
abbrev pub asked : ℕ → ℕ → Reading → Asked
asked source room after = record { source = source; room = room; after = after }

-- .. where the length of the lent buffer is told, after the source group
abbrev pub told : Reading → Asked
told after = asked after.second after.third after

-- .. and where it is left out, and is the least that H5 allows
abbrev pub untold : Reading → Asked
untold after = asked after.third least_buffer after

-- the source group, the length of the lent buffer, and the reading past them; what does not fit is read as though the length
-- were left out
unfoldable pub read_asked : List ℕ → Reading → Result Asked Asked
read_asked line from =
    let source = read line from (text "from #") in
    result_or (result_map_both told told (read_on line source (text ", buffer of #:")))
    (result_map_both untold untold (read_on line source (text ":")))

-- the byte that was read last, if it is one
abbrev pub byte_of : Result Reading Reading → Result (ℕ × Reading) Reading
byte_of (Ok next) = given (leb next.third 0xFF) (Ok (next.third, next)) (Err next)
byte_of (Err next) = Err next

-- one byte of a frame, and the reading past it; of what does not fit, or is above FFh, the reading alone
unfoldable pub read_hex : List ℕ → Reading → Result (ℕ × Reading) Reading
read_hex line from = byte_of (read line from (text " $"))
