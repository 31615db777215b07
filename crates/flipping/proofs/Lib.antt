-- Laws of flips.
pub mod Flips
