-- What the C firmware is told.
pub mod FrameNumber
-- The functions by their codes.
pub mod Function
