-- What the job of a sheet answers, and what it is lent.
pub mod Jobs
pub mod Lent
