-- The sequence of stages, where a job stops in it, and what is said while it is followed.
pub mod Stages
pub mod Stopping
pub mod Paths
pub mod Among
