-- The definitions of the root: IEEE 754's square root, what a root has to be, and what its functions tell each other.
pub mod Root
pub mod Nearest
pub mod Inner
