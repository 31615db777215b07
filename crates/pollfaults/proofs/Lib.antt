-- Laws of those answers: they are those of the doubles that the bits stand for.
pub mod AsDoubles
pub mod Accepted
pub mod Outcomes
pub mod Refusals
pub mod Expanded
pub mod Sole
