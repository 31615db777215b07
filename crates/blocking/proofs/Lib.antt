-- Laws of freezing and of the scratch that a phase works in.
pub mod Scratch
pub mod Freezing
