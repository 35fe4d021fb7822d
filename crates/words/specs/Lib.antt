-- The shelf in words that its caller keeps, and what their type says of these.
pub mod Sizes
pub mod Words
pub mod Memory
