-- What judging yields, what a request comes to, and what is told, as the code says them: `Ok`, or `Err` with the refusal.
use Rattle.std.specs.Prelude.{ℕ, Bool, Result, Ok}
use Rattle.model.specs.declared.Counted.{Counted}
use Rattle.model.specs.declared.Failure.{Failure}
use Rattle.model.specs.declared.Fault.{Fault}
use Rattle.model.specs.declared.House.{House}
use Rattle.model.specs.declared.Reached.{Reached}
use Rattle.model.specs.declared.Request.{Request}

-- "Function results": accepted, or the failure
abbrev pub FunctionResult : Type 0
FunctionResult = Result Unit Failure

-- "Judging yields the read request or a refusal": a house refusal or a failed result
abbrev pub Judged : Type 0
Judged = Result Request Fault

-- what a start or a link change is told: done, or the house refusal
abbrev pub Taken : Type 0
Taken = Result Unit House

-- #104, of an event report: counted, and whether its own addition was cut; or the house refusal
abbrev pub EventAnswer : Type 0
EventAnswer = Result Counted House

abbrev pub told_cut : Bool → EventAnswer
told_cut cut = Ok (record { cut = cut })

-- a reach query: the set of phys and how many they are, or the house refusal
abbrev pub Reach : Type 0
Reach = Result Reached House

abbrev pub reach_gives : ℕ → ℕ → Reach
reach_gives phys number = Ok (record { phys = phys; number = number })

-- a request: the length of the response, or the house refusal
abbrev pub Answer : Type 0
Answer = Result ℕ House
