-- The fields of a sheet, as they are read and as they are written.
pub mod Bytes
pub mod Fields
pub mod Digits
pub mod Texts
pub mod Steps
