-- Local search: a flip, a sweep, the sweeps.
pub mod Search
pub mod Searching
