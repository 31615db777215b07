-- The laws of the series' terms and sums, in the order in which they build on each other.
pub mod Cosines
pub mod CosTurns
mod NearTurns
