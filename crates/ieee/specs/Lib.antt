-- The definitions: constants, a value in units, equality but for the sign of a zero, magnitude and order, what a pass does to an entry.
pub mod Constants
pub mod Units
pub mod Flat
pub mod Magnitude
pub mod Pass
