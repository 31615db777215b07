-- A number that the bits of a column sign.
pub mod Signing
