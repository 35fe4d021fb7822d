use Rattle.std.proofs.Common.{arith, refl}
use Rattle.spelling.proofs.Front.{spell_turn, spell_end, turn_rest, end_rest}
use Rattle.spelling.proofs.spell.Goals as goal

-- src/lib.rt:83:5
pub loop-i-init : goal.loop-i-init
loop-i-init c = record { spelled = refl; rest = refl }

-- src/lib.rt:83:5
pub loop-i-preserved : goal.loop-i-preserved
loop-i-preserved c =
    let at = c.loop-i in
    let turn = spell_turn at.written c.args.response.now at.i (omega arith) (omega arith) at.invariant.spelled in
    record {
      spelled = rw (c.hex_digit.ensures, c.hex_digit-in-loop-i.ensures) turn;
      rest = turn_rest at.written c.args.text.now at.i _ _ _ at.invariant.rest;
    }

-- src/lib.rt:75:1
pub returns-clause-spelled : goal.returns-clause-spelled
returns-clause-spelled c =
    let n = c.at_most-n in
    spell_end c.loop-i.written c.args.response.now c.loop-i.i n.result (omega arith) n.ensures.smaller (omega arith)
    c.loop-i.invariant.spelled

-- src/lib.rt:75:1
pub returns-clause-rest : goal.returns-clause-rest
returns-clause-rest c =
    end_rest c.loop-i.written c.args.text.now c.loop-i.i c.at_most-n.result (omega arith) c.loop-i.invariant.rest
