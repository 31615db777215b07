-- What the cosine means; Bounds is what it is held to, and Differences what its functions tell each other.
pub mod Cosine
pub mod Bounds
pub mod Differences
