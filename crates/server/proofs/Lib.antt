-- How what is done to a phy is carried out on the words; and that the order of putting and storing does not matter.
pub mod StoredFirst
pub mod Carrying
-- What a request comes to, part by part.
pub mod Answering
-- Each public promise settles its outcome.
pub mod Settled
