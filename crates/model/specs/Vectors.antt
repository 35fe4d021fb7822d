-- More cases of the same kind as document 01's, worked out by hand from its sentences: where it says "Easily got wrong", and at the
-- ends of each rule. `proofs/Vectors` has the theorems that all hold.
pub mod Tools
pub mod EasilyWrong
pub mod Starts
pub mod Refusals
pub mod Results
pub mod Frames
pub mod Stays
pub mod Peaks
pub mod Sources
pub mod Stored
pub mod Cut
pub mod CrossedOut
pub mod Told
