-- Laws of a buffer that is filled.
pub mod Filled
