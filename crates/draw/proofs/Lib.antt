-- The laws of the draws, in the order in which they build on each other.
pub mod Outputs
pub mod Values
pub mod Uniforms
pub mod Bounds
pub mod GaussianFinite
pub mod Cases
