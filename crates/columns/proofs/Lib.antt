-- Laws of a column, for every crate above.
pub mod Scaled
pub mod Bounding
pub mod Turned
