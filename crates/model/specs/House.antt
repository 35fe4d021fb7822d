-- "House refusals: no frame is written". "The answer holds the number and nothing else; state and buffer stay."
-- What each is given for stands where it is given: H1 to H3 in `Shelf`, H4 in `Reach` and `Server`, H5 in `Server`,
-- H6 in `Request`, H7 to H9 in `Reports`, and H10, which #103 adds, in `Request`. "The lowest number that applies is given": there
-- they stand in rising order.
use Rattle.model.specs.Answers.{Answer, EventAnswer, Reach, Taken}
use Rattle.std.specs.Prelude.{ℕ, Ok, Err}
use Rattle.model.specs.declared.House.{House}
use Rattle.model.specs.declared.House.TheVariants.{PhyNumber, PhyGroup, IllegalTable, SourceGroup, ShortBuffer}
use Rattle.model.specs.declared.House.TheVariants.{CutFrame, NoSuchPhy, EventSource, Amount, WrongFrame}

abbrev pub house_number : House → ℕ
house_number PhyNumber = 1
house_number PhyGroup = 2
house_number IllegalTable = 3
house_number SourceGroup = 4
house_number ShortBuffer = 5
house_number CutFrame = 6
house_number NoSuchPhy = 7
house_number EventSource = 8
house_number Amount = 9
house_number WrongFrame = 10

-- The number that a start or a link change, an event report, a request, and a reach query is told: 0 where it is not refused.
abbrev pub taken_number : Taken → ℕ
taken_number (Ok done) = 0
taken_number (Err house) = house_number house

abbrev pub event_number : EventAnswer → ℕ
event_number (Ok counted) = 0
event_number (Err house) = house_number house

abbrev pub answer_number : Answer → ℕ
answer_number (Ok size) = 0
answer_number (Err house) = house_number house

abbrev pub query_number : Reach → ℕ
query_number (Ok reached) = 0
query_number (Err house) = house_number house
