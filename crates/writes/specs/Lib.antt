-- The phy operations by their codes.
pub mod Operation
