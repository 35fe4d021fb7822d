-- What C reads off the number that it is told, and that each public promise settles its outcome.
pub mod Coding
pub mod Settled
