-- How far margins move.
pub mod Margins
pub mod Largest
pub mod Unmoved
