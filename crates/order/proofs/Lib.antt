-- Laws of the order of the rows, for every crate above.
pub mod NotAbove
pub mod Ranking
pub mod InOrder
