-- The laws of what a job is refused for.
pub mod AsDoubles
pub mod Whole
