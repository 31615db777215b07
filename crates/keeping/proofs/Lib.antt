-- Laws of what is saved.
pub mod Losses
pub mod Fronts
pub mod Answers
