-- What a halving does beside the colouring.
pub mod Doubling
