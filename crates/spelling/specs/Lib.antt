-- What the functions of this crate give.
pub mod Part
pub mod Spelling
