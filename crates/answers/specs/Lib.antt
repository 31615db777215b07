-- What a job answers and leaves.
pub mod Answers
pub mod Thinning
