-- The first line of a sheet, by places, as it is read.
pub mod Words
pub mod FirstLine
