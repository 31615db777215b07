-- The table's rule, and laws that both series need.
pub mod Upto
pub mod Divisors
pub mod Both
