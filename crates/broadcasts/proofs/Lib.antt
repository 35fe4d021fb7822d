-- The response, once its list is written.
pub mod Listing
-- The walk over the phys.
pub mod Walk
-- Each public promise settles its outcome.
pub mod Settled
