-- Laws of what is read and written.
pub mod Whole
