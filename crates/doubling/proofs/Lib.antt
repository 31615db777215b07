-- The laws of what a halving does beside the colouring.
pub mod Turns
pub mod Once
