-- Each public promise settles its outcome, and is that of the function of `host` that has its name.
pub mod Settled
pub mod Same
