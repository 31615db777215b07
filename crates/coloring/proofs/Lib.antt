-- Marks that are set, and how many.
pub mod Marks
