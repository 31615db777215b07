-- The basis, as a list of its vectors and as a slice.
pub mod Basis
pub mod Held
