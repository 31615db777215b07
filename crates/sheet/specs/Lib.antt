-- The text that answers a sheet.
pub mod Answer
