-- Laws of a stretch of rows.
pub mod Stretches
pub mod Columns
