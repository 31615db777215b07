-- Laws of those tests.
pub mod Refusals
