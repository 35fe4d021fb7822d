-- Laws of the definitions, for proofs to cite.

-- the small words, lists and numbers
pub mod Tests
pub mod Bits
pub mod Rising
pub mod Join
pub mod Picked
pub mod Places
pub mod Four
-- rows of refusals and of results, and what is known of what passed them
pub mod Lowest
pub mod Drawn
pub mod Checks
-- a request's whole way, and what a phy's changes keep
pub mod Handled
pub mod PhyChanges
-- what every operation keeps: this one leans on `Plain`, which leans on the others here
pub mod Steps
-- promises that settle their outcome, for the crates above
pub mod Settling
