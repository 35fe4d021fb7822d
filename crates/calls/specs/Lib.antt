-- Calls of the code, and what the model says of them.

-- what the model says of one operation; what is seen of calls, and how the model has them; what some requests leave
pub mod Operations
pub mod Runs
pub mod Left
-- what can be linked, as such calls
pub mod Interface
pub mod Server
pub mod Host
pub mod Linked
