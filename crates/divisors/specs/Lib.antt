-- What the table of divisors holds.
pub mod Divisors
