-- Laws of the numbers.
pub mod Reasons
