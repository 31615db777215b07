-- Laws of a number that the bits of a column sign.
pub mod Turning
pub mod Fronts
pub mod Rows
pub mod Bytes
