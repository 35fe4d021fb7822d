-- `ResponseText` prints byte after byte: the loop's invariant is what has been written so far.
use Rattle.std.proofs.Common.{take}
use Rattle.std.specs.Fmt.{HasWritten, IsPlainFormatter}
use Rattle.std.specs.List.{flat_map}
use Rattle.spelling.specs.Spelling.{byte_text}
use Rattle.spelling.proofs.ResponseTextDisplay.fmt.Given as goal

abbrev pub invariant-loop-byte : goal.invariant-loop-byte
invariant-loop-byte g l =
    IsPlainFormatter l.initial.f
    → HasWritten g.W.Write.write_str_gives l.initial.f (flat_map byte_text (take l.byte-index l.byte-items)) l.f
