-- Facts of the number that C is told.
pub mod Parts
pub mod FrameNumbers
-- Each public promise settles its outcome.
pub mod Settled
