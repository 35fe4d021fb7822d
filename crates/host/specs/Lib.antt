-- What C is told.
pub mod Told
