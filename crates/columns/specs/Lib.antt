-- What a column does to a vector over the rows.
pub mod Columns
pub mod Kernels
