-- What a start is given, by numbers.
pub mod Number
-- The response, once its list is written.
pub mod Listing
-- The walk over the entries.
pub mod Walk
-- Each public promise settles its outcome.
pub mod Settled
