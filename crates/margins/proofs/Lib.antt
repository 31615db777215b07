-- Laws of blocks of rows, and what the definitions say of a small case.
pub mod Refusals
pub mod OldCount
pub mod Unique
pub mod SameEntries
pub mod SmallCase
