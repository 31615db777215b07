-- The order by magnitude on magnitudes.
pub mod Ahead
