-- Laws of the answer of a whole sheet.
pub mod Whole
