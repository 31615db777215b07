-- What the writer of a sheet answers and writes.
pub mod Writing
