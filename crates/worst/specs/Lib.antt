-- Rows that are passed over in the search of the worst.
pub mod Passed
