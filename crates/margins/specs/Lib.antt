-- How far margins move, and which words turn.
pub mod Answers
