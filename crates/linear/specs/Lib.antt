-- Vectors, and an orthonormal basis.
pub mod Vectors
pub mod Larger
