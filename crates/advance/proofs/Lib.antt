-- The laws of the move along a direction.
pub mod Advancing
