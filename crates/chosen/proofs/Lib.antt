-- Laws of the columns that are passed over.
pub mod Skipping
