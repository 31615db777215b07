-- The words of the calls.
pub mod Calls
