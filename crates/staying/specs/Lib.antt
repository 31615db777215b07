-- A column that is scaled, however it is read, and rows that stay below a bound.
pub mod Scaling
pub mod Below
