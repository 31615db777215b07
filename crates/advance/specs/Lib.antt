-- The move along a direction: what its functions leave in the scratch.
pub mod Advancing
