-- Laws of the lines of columns, as they are written.
pub mod Loops
