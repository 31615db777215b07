-- Laws of the first line: which patterns are a NaN's, how far it reaches, how it is read, what a good one says, and that a longer text has the same.
pub mod Doubles
pub mod Places
pub mod Fields
pub mod Good
pub mod Longer
