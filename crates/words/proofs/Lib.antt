-- Laws about the words of a shelf, and that each public promise settles its outcome.

-- the low bits of a word, rows of blocks, and the blocks of a shelf
pub mod Low
pub mod Blocks
pub mod Pieces
-- an array made by a closure
pub mod Made
-- where a piece stands, and what storing a piece or a whole shelf comes to
pub mod Reading
pub mod Laying
pub mod Whole
-- words and shelf fit together, and so after entries stored one after another, and after every call
pub mod Lens
pub mod Storing
pub mod Steps
-- the layout on numbers
pub mod Vectors
-- every public promise settles its outcome
pub mod Settled
