-- How the matrix of a pass is read.
pub mod Rows
pub mod Entries
pub mod ChosenColumns
pub mod PassedOver
