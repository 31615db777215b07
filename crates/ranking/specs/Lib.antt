-- The order by magnitude, and what its functions tell each other.
pub mod Ranking
pub mod Given
