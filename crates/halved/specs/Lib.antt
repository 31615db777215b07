-- One halving, and what its functions tell each other.
pub mod Halve
pub mod Handed
