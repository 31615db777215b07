-- Two jobs, the second allowing at least as much.
pub mod Demand
