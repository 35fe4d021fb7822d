-- Facts that the functions' proofs use, here and above: of `all` and of a fold that asks for all, and of a loop that adds bits.
pub mod All
pub mod Adding
-- Each public promise settles its outcome.
pub mod Settled
