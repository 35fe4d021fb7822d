-- What follows from the definitions of specs/.

-- the checked lists
pub mod Computes
pub mod Holds
pub mod Cases
pub mod Vectors
-- laws that many proofs use
pub mod Laws
-- the tests of specs/ once more, in plain logic
pub mod Plain
-- the three demands
pub mod Demands
