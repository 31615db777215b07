-- A phase on the free columns.
pub mod Phase
pub mod Phasing
