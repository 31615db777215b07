-- Refusals and their numbers.
pub mod Refusals
