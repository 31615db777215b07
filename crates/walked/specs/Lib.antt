-- The walk of one phase, and what its functions tell each other.
pub mod Walk
pub mod Walking
