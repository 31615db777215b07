-- A step of the walk reaches the freezing limit: first over whole numbers, then over doubles, then over the walk's own definitions.
pub mod Near
pub mod Close
pub mod Divide
pub mod Whole
pub mod Reach
pub mod Freezing
pub mod Examples
