-- What the model says of one operation on a shelf, of every kind of operation alike: what its caller is told, what the lent buffer holds
-- afterwards, which house refusals there are, and which source group gets it. And the same of a start.
use Rattle.std.specs.Prelude.{ℕ, Bool, false, List, [], eqb, Err, Ok}
use Rattle.model.specs.declared.Outcome.{Outcome}
use Rattle.model.specs.declared.Shelf.{Shelf}
use Rattle.model.specs.Answers.{Answer, EventAnswer, Reach, Taken, told_cut}
use Rattle.model.specs.House.{taken_number, event_number, answer_number, query_number}
use Rattle.model.specs.Reach.{reach_query}
use Rattle.model.specs.Reports.{event, link_change}
use Rattle.model.specs.Runs.{Operation, Ask, Event, LinkChange, ReducedFunctionality, Ses, QueryReach}
use Rattle.model.specs.Server.{served, lent_after}
use Rattle.model.specs.Shelf.{start}
use Rattle.model.proofs.Demands.Refusals.{start_refusals, request_refusals, query_refusals, event_refusals, link_change_refusals}

-- What a caller is told: the answer to a request, whether a start or a link change is taken, the answer to an event report (#104) and to a
-- reach query. A device notice is told nothing.
pub data Said : Type 0 where
  ToRequest : Answer → Said
  ToReport : Taken → Said
  ToEvent : EventAnswer → Said
  ToNotice : Said
  ToQuery : Reach → Said

unfoldable pub said : Shelf → Operation → Said
said s (Ask g frame out) = ToRequest (served s g frame out).answer
said s (Event p source amount) = ToEvent (event s p source amount).answer
said s (LinkChange p) = ToReport (link_change s p).taken
said s ReducedFunctionality = ToNotice
said s Ses = ToNotice
said s (QueryReach g) = ToQuery (reach_query s g)

-- The lent buffer, as it was lent and as it is afterwards. Only a request has one; elsewhere it is empty.
unfoldable pub lent_before : Operation → List ℕ
lent_before (Ask g frame out) = out
lent_before (Event p source amount) = []
lent_before (LinkChange p) = []
lent_before ReducedFunctionality = []
lent_before Ses = []
lent_before (QueryReach g) = []

unfoldable pub buffer_after : Shelf → Operation → List ℕ
buffer_after s (Ask g frame out) = lent_after s g frame out
buffer_after s (Event p source amount) = []
buffer_after s (LinkChange p) = []
buffer_after s ReducedFunctionality = []
buffer_after s Ses = []
buffer_after s (QueryReach g) = []

-- whether group g gets what is told: its own requests and reach queries
unfoldable pub gets : ℕ → Operation → Bool
gets g (Ask h frame out) = eqb h g
gets g (Event p source amount) = false
gets g (LinkChange p) = false
gets g ReducedFunctionality = false
gets g Ses = false
gets g (QueryReach h) = eqb h g

-- ---- House refusals: the number that is told, 0 where none is; and all that there are, each with its number and its condition. A device
-- notice has none.

abbrev pub said_number : Said → ℕ
said_number (ToRequest answer) = answer_number answer
said_number (ToReport taken) = taken_number taken
said_number (ToEvent answer) = event_number answer
said_number ToNotice = 0
said_number (ToQuery reach) = query_number reach

abbrev pub refusals : Shelf → Operation → List (ℕ × Type 0)
refusals s (Ask g frame out) = request_refusals g frame out
refusals s (Event p source amount) = event_refusals s p source amount
refusals s (LinkChange p) = link_change_refusals s p
refusals s ReducedFunctionality = []
refusals s Ses = []
refusals s (QueryReach g) = query_refusals g

-- ---- #104: whether an event report is told that its own addition was cut; nothing else is ever told so.

abbrev pub event_says_cut : EventAnswer → Bool
event_says_cut (Ok counted) = counted.cut
event_says_cut (Err house) = false

abbrev pub says_cut : Said → Bool
says_cut (ToRequest answer) = false
says_cut (ToReport taken) = false
says_cut (ToEvent answer) = event_says_cut answer
says_cut ToNotice = false
says_cut (ToQuery reach) = false

-- ---- A start: what it is given, by content, and what the model makes of it

pub record Given : Type 0 where
  pub number : ℕ
  pub groups : List ℕ
  pub table : List ℕ
  pub identifier : List ℕ

abbrev pub start_of : Given → Outcome
start_of x = start x.number x.groups x.table x.identifier

abbrev pub start_refusals_of : Given → List (ℕ × Type 0)
start_refusals_of x = start_refusals x.number x.groups x.table
