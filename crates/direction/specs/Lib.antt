-- A direction of the walk, and the step along it.
pub mod Direction
pub mod Step
pub mod Directing
