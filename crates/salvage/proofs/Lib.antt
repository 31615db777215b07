-- Laws of the program's loops.
pub mod Reading
pub mod Whole
