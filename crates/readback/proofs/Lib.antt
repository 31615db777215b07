-- Laws of the reader as bits: the whole sheet read, what is written is read back, what is read is written again, and no second answer fits.
pub mod Whole
pub mod Back
pub mod Sole
