-- The lines of the words that moved.
pub mod Lines
