-- #101: which entries are stored, said by the operations alone and not by what the shelf keeps of them: "Each origination of Expander 1h
-- stores the monitor that crossed ..; each Expander 2h stores every peak monitor of the phy".
use Rattle.std.specs.Prelude.{ℕ, ◌-◌, cond, List, [], ◌∷◌, ◌++◌, ltb, length, drop, Ok, Err}
use Rattle.model.specs.declared.Entry.{Entry}
use Rattle.model.specs.declared.Fault.TheVariants.{NoFrame, Fails}
use Rattle.model.specs.declared.Shelf.{Shelf}
use Rattle.model.specs.Answers.{Judged, Taken}
use Rattle.model.specs.Counting.{originate_times, event_on}
use Rattle.model.specs.Reports.{event_taken}
use Rattle.model.specs.Request.{judge}
use Rattle.model.specs.Results.{accepted, decide}
use Rattle.model.specs.Runs.{Operation, Ask, Event, LinkChange, ReducedFunctionality, Ses, QueryReach, next}
use Rattle.model.specs.Server.{least_buffer}
use Rattle.model.specs.Shelf.{exists, phy_at}
use Rattle.model.specs.Store.{entries_of}
use Rattle.model.specs.Tests.{given}
use Rattle.model.specs.Writes.{Doing, Reads, WritesTo, doing}

-- a report that is taken stores these
abbrev pub if_taken : Taken → List Entry → List Entry
if_taken (Ok done) es = es
if_taken (Err house) es = []

-- what is done by a request that is accepted; one that is refused, or fails, does nothing, as a read
abbrev pub judged_does : Shelf → ℕ → List ℕ → Judged → Doing
judged_does s g frame (Err (NoFrame house)) = Reads
judged_does s g frame (Err (Fails result)) = Reads
judged_does s g frame (Ok request) = cond (accepted (decide s g frame request)) (doing frame request) Reads

abbrev pub request_does : Shelf → ℕ → List ℕ → ℕ → Doing
request_does s g frame room =
    given (ltb 31 g) Reads
    (given (ltb room least_buffer) Reads
    (judged_does s g frame (judge frame)))

abbrev pub stored_by_doing : Shelf → Doing → List Entry
stored_by_doing s Reads = []
stored_by_doing s (WritesTo p f) = entries_of p (f (phy_at s p))

-- the entries that one operation stores
unfoldable pub stored_by : Shelf → Operation → List Entry
stored_by s (Ask g frame out) = stored_by_doing s (request_does s g frame (length out))
stored_by s (Event p source amount) =
    if_taken (event_taken (exists s p) source amount) (entries_of p (event_on source amount (phy_at s p)))
stored_by s (LinkChange p) = []
stored_by s ReducedFunctionality = []
stored_by s Ses = []
stored_by s (QueryReach g) = []

-- all entries that a run stores, one after another
unfoldable pub history : Shelf → List Operation → List Entry
history s [] = []
history s (operation ∷ operations) = stored_by s operation ++ history (next s operation) operations

-- "The server keeps the last 32 stored descriptors."
abbrev pub last_ones : ℕ → List Entry → List Entry
last_ones n es = drop (length es - n) es

-- the index of the entry that is stored as number n: "Indexes run from 0001h and go from FFFFh to 0001h". 0000h is the index of none.
abbrev pub index_of : ℕ → ℕ
index_of n = originate_times n 0x0000
