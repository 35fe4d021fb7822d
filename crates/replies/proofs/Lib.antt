-- Facts of bytes that are copied into a buffer; the crates that write into the lent one use them too.
pub mod Laid
pub mod Room
pub mod Front
-- Laws of a list that is written part by part, of any layout.
pub mod Listing
-- Each public promise settles its outcome.
pub mod Settled
