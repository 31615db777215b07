-- The laws of the vocabulary, for every crate above.
pub mod Choosing
pub mod Filling
pub mod Parts
pub mod Loops
pub mod Marks
pub mod Keeping
pub mod Every
pub mod Sorting
pub mod Summing
pub mod Passing
