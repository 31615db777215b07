-- Which word moved: the list, and what its calls answer.
pub mod Changes
pub mod Answers
