-- One pass.
pub mod Halving
pub mod Alone
