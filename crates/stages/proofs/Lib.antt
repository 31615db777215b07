-- The laws of the stages.
pub mod Halting
pub mod Lengths
pub mod Following
pub mod Totals
pub mod Drawing
pub mod SameStages
pub mod SameMatrix
pub mod Passing
