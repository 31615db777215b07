-- The laws of allowances.
pub mod Allowances
