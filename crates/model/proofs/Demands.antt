-- What the request demands, as theorems over the definitions.

-- demands 1 and 2: the house refusals, the function results, the writes, their effects and those of event reports, what fits, the response
-- frames, what every operation keeps, what moves the change count, the list of stored peak events (#101: what is stored with an
-- origination, that the list is the history, what a request for it is given), when an error count has stuck (#104: what a report is told,
-- what each operation does to one, and how it stands over a run), and that every request and report has one outcome
pub mod Refusals
pub mod Results
pub mod Writes
pub mod Controlled
pub mod Configured
pub mod Events
pub mod Cut
pub mod Fits
pub mod Frames
pub mod Invariant
pub mod ChangeCount
pub mod Stored
pub mod History
pub mod EventList
pub mod ErrorSteps
pub mod ErrorCounts
pub mod Outcomes
-- demand 3: what a shelf looks like to a group, one operation, a crossed-out one, what remains of a run, the theorem, and what a reader
-- will ask
pub mod Looks
pub mod OneOperation
pub mod Unseen
pub mod Remains
pub mod Isolation
pub mod OnShelfW
-- beside it: what a stranger does and learns
pub mod Strangers
