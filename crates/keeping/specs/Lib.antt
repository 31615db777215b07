-- What is saved of a damaged sheet.
pub mod Words
pub mod Saved
pub mod Steps
