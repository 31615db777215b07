-- The laws of sums and counts by a chain of calls over a list.
pub mod Chains
