-- What the laws of a saved sheet speak of: the lines that a text is made of, and the sheet that the kept lines say.
pub mod Whole
pub mod Kept
