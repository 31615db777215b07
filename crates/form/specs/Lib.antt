-- The form of a sheet: by places, as it is read, and as a text, as it is written; and what functions are lent to write it.
pub mod Form
pub mod Reading
pub mod Sheets
pub mod Columns
