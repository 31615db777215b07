-- What magnitudes are.
pub mod Sizes
