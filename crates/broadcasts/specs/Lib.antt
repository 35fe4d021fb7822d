-- What the functions of this crate promise, beside the model's definitions.
pub mod Listed
pub mod Grows
