-- `script::text::digits`: the loop's invariant: going on from here comes to what the definition says.
use Rattle.std.proofs.Common.{◌≡◌, drop}
use Rattle.script.specs.Text.{digits}
use Rattle.script.proofs.text.digits.Given as goal

abbrev pub invariant-loop-byte : goal.invariant-loop-byte
invariant-loop-byte l =
    record {
      counted : l.length ≡ l.byte-index;
      goes_on : digits l.base (drop l.byte-index l.bytes) l.value l.length ≡ digits l.base l.bytes 0 0;
    }
