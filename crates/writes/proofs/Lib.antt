-- The descriptors that are left.
pub mod Left
-- Each public promise settles its outcome.
pub mod Settled
