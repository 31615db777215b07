-- What a job is refused for.
pub mod Faults
