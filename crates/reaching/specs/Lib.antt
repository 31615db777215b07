-- What a step along a direction has to reach: over whole numbers, and over doubles.
pub mod Whole
pub mod Reaching
