-- Laws of the first line, as it is written.
pub mod Laid
