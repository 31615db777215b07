-- The free places of a vector: what is chosen there, put back there, and rounded there.
pub mod Places
