-- `spelling::spell` meets its contract. The loop's invariant: the text begins with the bytes so far, and what stands
-- behind them is as it was. Assumes nothing.
use Rattle.std.proofs.Common.{◌≡◌, take, drop, ◌*◌}
use Rattle.std.specs.List.{flat_map}
use Rattle.spelling.specs.Spelling.{byte_text}
use Rattle.spelling.proofs.spell.Given as goal

abbrev pub invariant-loop-i : goal.invariant-loop-i
invariant-loop-i l =
    record {
      spelled : take (3 * l.i) l.written ≡ flat_map byte_text (take l.i l.response);
      rest : drop (3 * l.i) l.written ≡ drop (3 * l.i) l.initial.written;
    }
