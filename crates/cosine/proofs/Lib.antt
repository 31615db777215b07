-- The laws of the cosine, in the order in which they build on each other.
mod CosineError
mod Poly
mod CosineRange
mod Bits64
pub mod CosineBound
pub mod Differences
