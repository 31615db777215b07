-- Weights.
pub mod Weights
