-- Each public promise settles its outcome.
pub mod Settled
