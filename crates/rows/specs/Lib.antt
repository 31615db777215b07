-- What the functions on some rows tell each other.
pub mod Blocks
pub mod Compared
