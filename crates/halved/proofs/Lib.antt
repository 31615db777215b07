-- Laws of one halving.
pub mod Columns
pub mod FiniteEntries
pub mod Calls
pub mod Adding
