-- The text of a job's answer, and its words.
pub mod Words
pub mod Answer
pub mod Steps
