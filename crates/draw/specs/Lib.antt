-- What the draws mean, in the order of reading; Drawn is what the functions tell each other.
pub mod SplitMix
pub mod Uniform
pub mod Gaussian
pub mod Drawn
