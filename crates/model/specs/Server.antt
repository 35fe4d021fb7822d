-- One request in, one reply and the next shelf out. Demand 1: "Every request frame, any source group .. gets its fixed answer."
use Rattle.std.specs.Prelude.{ℕ, cond, List, ◌++◌, ltb, length, drop, Ok, Err}
use Rattle.model.specs.declared.House.{House}
use Rattle.model.specs.declared.House.TheVariants.{SourceGroup, ShortBuffer}
use Rattle.model.specs.declared.Fault.TheVariants.{NoFrame, Fails}
use Rattle.model.specs.declared.Request.{Request}
use Rattle.model.specs.declared.Served.{Served}
use Rattle.model.specs.declared.Shelf.{Shelf}
use Rattle.model.specs.Answers.{Answer, FunctionResult, Judged}
use Rattle.model.specs.Reply.{failed, respond}
use Rattle.model.specs.Request.{function_of, judge}
use Rattle.model.specs.Results.{result_code, accepted, decide}
use Rattle.model.specs.Tests.{given}
use Rattle.model.specs.Writes.{effect}

-- A reply is a house refusal, and then no frame is written, or the bytes of a response.
pub data Reply : Type 0 where
  Refuses : House → Reply
  Sends : List ℕ → Reply

-- the reply, and the shelf afterwards
pub record Handled : Type 0 where
  pub reply : Reply
  pub shelf : Shelf

abbrev pub refuse : Shelf → House → Handled
refuse s house = record { reply = Refuses house; shelf = s }

abbrev pub fail : Shelf → List ℕ → FunctionResult → Handled
fail s frame result = record { reply = Sends (failed (function_of frame) (result_code result)); shelf = s }

-- A request that was read: its response and its full effect where it is accepted, and otherwise the result and no effect at all.
abbrev pub conclude : Shelf → ℕ → List ℕ → Request → FunctionResult → Handled
conclude s g frame request result =
    cond (accepted result)
    (record { reply = Sends (respond s g request); shelf = effect s frame request })
    (fail s frame result)

abbrev pub handle_judged : Shelf → ℕ → List ℕ → Judged → Handled
handle_judged s g frame (Err (NoFrame house)) = refuse s house
handle_judged s g frame (Err (Fails failure)) = fail s frame (Err failure)
handle_judged s g frame (Ok request) = conclude s g frame request (decide s g frame request)

-- H5: "response buffer shorter than 1,028 bytes". Nothing else says this number: the code has it as `model::LEAST_BUFFER`.
abbrev pub least_buffer : ℕ
least_buffer = 1028

-- H4 "source group above 31", H5, then H6, H10 (#103) and the function results
unfoldable pub handle : Shelf → ℕ → List ℕ → ℕ → Handled
handle s g frame room =
    given (ltb 31 g) (refuse s SourceGroup)
    (given (ltb room least_buffer) (refuse s ShortBuffer)
    (handle_judged s g frame (judge frame)))

-- A response at the front of the lent buffer: "The buffer past any response is unchanged."
abbrev pub over : List ℕ → List ℕ → List ℕ
over out bytes = bytes ++ drop (length bytes) out

-- What the lent buffer holds afterwards: "state and buffer stay", or the response, and the old rest behind it.
abbrev pub lent : List ℕ → Reply → List ℕ
lent out (Refuses house) = out
lent out (Sends bytes) = over out bytes

-- What the caller is told: the house refusal, or the length of the response.
abbrev pub answer : Reply → Answer
answer (Refuses house) = Err house
answer (Sends bytes) = Ok (length bytes)

-- Source group, request frame and lent buffer give the answer with the next shelf, and the buffer afterwards.
unfoldable pub served : Shelf → ℕ → List ℕ → List ℕ → Served
served s g frame out =
    let h : Handled = handle s g frame (length out) in
    record { answer = answer h.reply; shelf = h.shelf }

unfoldable pub lent_after : Shelf → ℕ → List ℕ → List ℕ → List ℕ
lent_after s g frame out = lent out (handle s g frame (length out)).reply
