-- Laws of the margins over the columns, and of the words that turn over the rows.
pub mod Counting
pub mod MarginMore
