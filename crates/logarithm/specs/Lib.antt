-- What the logarithm means; Bounds is what it is held to, and Turns what its functions tell each other.
pub mod Logarithm
pub mod Bounds
pub mod Turns
