-- Laws of a sheet's job: what its answer comes to, and the arrays that it is read into.
pub mod Jobs
pub mod Arrays
