-- Laws of what a job answers and leaves: accepted, refused, the same job, no second answer.
pub mod Accepting
pub mod Sole
pub mod Finishing
pub mod SameJob
