-- The laws of the logarithm, in the order in which they build on each other.
pub mod Logs
mod LnTurns
mod Guess
