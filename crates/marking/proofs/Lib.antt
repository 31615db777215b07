-- Laws of the rows that were met.
pub mod Marking
