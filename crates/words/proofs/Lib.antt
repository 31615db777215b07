-- Laws of the words of a sheet.
pub mod Whole
pub mod Promises
pub mod Listed
