-- Laws of the writer: what it refuses, the whole sheet in the buffer, and that no second answer fits.
pub mod Faults
pub mod Whole
pub mod Sole
