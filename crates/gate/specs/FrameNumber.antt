-- "The shelf's firmware is in C. It calls two parts that need no device: judging one request frame alone (function and H6,
-- 01h, 03h or nothing wrong) .." #103, of H6 and H10: "The C firmware's frame judge tells both as well." What C is told of a frame is one
-- number of 32 bits, in four parts of 8 bits.
use Rattle.std.specs.Prelude.{ℕ, ◌+◌, ◌*◌, Bool, cond, List, leb, length, Ok, Err}
use Rattle.model.specs.declared.Fault.TheVariants.{NoFrame, Fails}
use Rattle.model.specs.Answers.{Judged}
use Rattle.model.specs.House.{house_number}
use Rattle.model.specs.Request.{function_of, judge}
use Rattle.model.specs.Results.{failure_code}

-- Of a frame under four bytes there is no function to tell; from four bytes on it is byte 1, also beside H10.
abbrev pub has_function : List ℕ → Bool
has_function frame = leb 4 (length frame)

-- bits 0 to 7: the function, or 00h where there is none
abbrev pub function_part : List ℕ → ℕ
function_part frame = cond (has_function frame) (function_of frame) 0x00

-- bits 8 to 15: the result that the frame draws, 01h or 03h, or 00h where it draws none
abbrev pub result_part : Judged → ℕ
result_part (Ok request) = 0x00
result_part (Err (NoFrame house)) = 0x00
result_part (Err (Fails failure)) = failure_code failure

-- bits 16 to 23: the number of the house refusal that it draws, 6 or 10, or 0 where it draws none
abbrev pub house_part : Judged → ℕ
house_part (Ok request) = 0
house_part (Err (NoFrame house)) = house_number house
house_part (Err (Fails failure)) = 0

-- bits 24 to 31: 1 where there is a function to tell, and 0 where there is none
abbrev pub has_function_part : List ℕ → ℕ
has_function_part frame = cond (has_function frame) 1 0

unfoldable pub frame_number : List ℕ → ℕ
frame_number frame =
    has_function_part frame * 0x1000000
    + house_part (judge frame) * 0x10000
    + result_part (judge frame) * 0x100
    + function_part frame
