-- What a job on bits answers and leaves.
pub mod Refusals
pub mod Ballots
