-- What the functions of this crate give.
pub mod Text
pub mod Line
pub mod Report
-- What the readings gave while they gave an `Option`.
pub mod Fitting
