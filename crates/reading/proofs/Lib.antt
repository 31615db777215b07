-- A lent matrix, however it is read.
pub mod Lent
