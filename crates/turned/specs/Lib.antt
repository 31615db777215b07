-- Which words turn.
pub mod Turned
pub mod BlocksTurned
