-- Rows that are passed over in the search of the first.
pub mod Behind
