-- Bytes that lie over a frame.
pub mod Lays
-- What a function that sends a response promises, and one that writes a part of a list. The crates above that send share them.
pub mod Sent
pub mod Listed
