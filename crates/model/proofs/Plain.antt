-- The tests of specs/ once more, in plain logic: the test holds exactly when the sentence does. Beside them, in the same files, plain
-- facts about definitions that are no tests.
pub mod Bytes
pub mod Zone
pub mod Shelf
pub mod Reach
pub mod Sources
pub mod Counting
pub mod Store
pub mod EventList
pub mod Start
pub mod Reports
pub mod Request
pub mod Results
pub mod Reply
pub mod Writes
pub mod CrossedOut
