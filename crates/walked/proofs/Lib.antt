-- Laws of a step, of the steps and of a phase.
pub mod Stepping
pub mod Counts
pub mod Ending
pub mod Phases
pub mod SameEntries
