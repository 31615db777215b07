-- What the tests of the sizes and of the entries say.
pub mod Sizes
pub mod Bounded
pub mod Spare
pub mod ReadsAs
