-- The list of what moved.
pub mod Moved
