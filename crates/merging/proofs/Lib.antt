-- Laws of the merge: in place, of two parts, and of both halves.
pub mod Merging
pub mod Turns
pub mod Joining
pub mod Halves
