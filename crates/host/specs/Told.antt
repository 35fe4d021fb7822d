-- What C is told: one number of 32 bits. Bit 31 says that it is a house refusal, whose number, 1 to 10, is in the low bits; where it is
-- not set, the number is what was asked for.
use Rattle.std.specs.Prelude.{ℕ, ◌+◌, ◌*◌, ◌≤◌, ◌<◌, cond, Ok, Err}
use Rattle.model.specs.declared.House.{House}
use Rattle.model.specs.Answers.{Answer, EventAnswer, Reach, Taken}
use Rattle.model.specs.House.{house_number}

abbrev pub refused_told : House → ℕ
refused_told house = 0x80000000 + house_number house

-- a start or a link change: 0 where it is done
abbrev pub taken_told : Taken → ℕ
taken_told (Ok done) = 0
taken_told (Err house) = refused_told house

-- an event report (#104): 0 where it is counted, and 1 where its own addition to an error count was cut
abbrev pub event_told : EventAnswer → ℕ
event_told (Ok counted) = cond counted.cut 1 0
event_told (Err house) = refused_told house

-- a request: the length of the response
abbrev pub answer_told : Answer → ℕ
answer_told (Ok size) = size
answer_told (Err house) = refused_told house

-- a reach query: the set of phys in bits 0 to 23, and how many they are in bits 24 to 28
abbrev pub reach_told : Reach → ℕ
reach_told (Ok reached) = reached.number * 0x1000000 + reached.phys
reach_told (Err house) = refused_told house

-- What `answer_told` and `reach_told` ask of what they code, and what the server's answers have (proofs/Coding.antt): room in their bits.
abbrev pub AnswerFits : Answer → Type 0
AnswerFits (Ok size) = size ≤ 400
AnswerFits (Err house) = Unit {0}

abbrev pub ReachFits : Reach → Type 0
ReachFits (Ok reached) = (reached.phys < 0x1000000) × (reached.number ≤ 24)
ReachFits (Err house) = Unit {0}
