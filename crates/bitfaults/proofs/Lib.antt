-- Laws of those answers: they are those of the doubles that the bits stand for.
pub mod Expanded
pub mod Outcomes
pub mod AcrossForms
pub mod Sole
