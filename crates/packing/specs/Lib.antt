-- Weights, packed.
pub mod Packed
