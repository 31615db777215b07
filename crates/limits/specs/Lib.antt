-- Sizes, what is refused for them, and how a lent matrix is read.
pub mod Limits
pub mod Matrix
pub mod Votes
pub mod Reading
