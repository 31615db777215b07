-- The answer of a sheet with the words that moved.
pub mod Words
