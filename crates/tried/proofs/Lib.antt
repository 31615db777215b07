-- Laws of a pass that is tried.
pub mod Trying
