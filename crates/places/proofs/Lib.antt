-- The laws of the places.
pub mod Places
mod Rounding
