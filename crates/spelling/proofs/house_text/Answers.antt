-- `spelling::house_text` meets its contract: one digit below ten, and two from there on. Assumes nothing.
use Rattle.std.proofs.Common.{arith}
use Rattle.spelling.proofs.Refusal.{one_digit, two_digits, laid_one, laid_two}
use Rattle.spelling.proofs.house_text.Goals as goal

pub returns-then-number-lt10-clause-long : goal.returns-then-number-lt10-clause-long
returns-then-number-lt10-clause-long c = rw (one_digit c.args.house (omega arith))

pub returns-then-number-lt10-clause-spelled : goal.returns-then-number-lt10-clause-spelled
returns-then-number-lt10-clause-spelled c =
    laid_one _ _ c.args.text.now c.hex_digit.result
    (rw (c.hex_digit.ensures, c.house_number-number.ensures) (one_digit c.args.house (omega arith)))
    c.copy_from_slice.ensures.after

pub returns-clause-long : goal.returns-clause-long
returns-clause-long c = rw (two_digits c.args.house (omega arith))

pub returns-clause-spelled : goal.returns-clause-spelled
returns-clause-spelled c =
    laid_two _ c.args.text.now c.hex_digit-2.result c.hex_digit-3.result
    (rw (c.hex_digit-2.ensures, c.hex_digit-3.ensures, c.house_number-number.ensures) (two_digits c.args.house (omega arith)))
    (omega arith)
