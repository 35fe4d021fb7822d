-- Document 01 as definitions, in the document's order. The small words and the bytes that all use come first.
pub mod Tests
pub mod Bytes
-- "The shelf", with the reach query
pub mod Zone
pub mod Shelf
pub mod Reach
-- "House refusals": their numbers
pub mod House
-- what judging yields and what is told: done, or the refusal
pub mod Answers
-- "Function results": their codes, and the order in which they are judged
pub mod Results
-- "Frames": a request is judged and read; the responses; what the writes do; the whole of a request
pub mod Request
pub mod Reply
pub mod Writes
pub mod Server
-- "Counting", with the reports
pub mod Sources
pub mod Counting
pub mod Reports
-- #101: the list of stored peak events
pub mod Store
-- "What each promise has to rule out": that it settles its outcome; runs, and the sizes and widths of what is in them; and for demand 3
-- what is crossed out of them
pub mod Settled
pub mod Runs
pub mod History
pub mod Tally
pub mod Fits
pub mod CrossedOut
-- "Shelf W, for checking": the reader of hexadecimal, the shelf, the cases, and further vectors
pub mod Hex
pub mod ShelfW
pub mod Cases
pub mod Vectors
