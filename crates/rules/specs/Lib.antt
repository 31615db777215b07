-- The rules by which a job stops.
pub mod Rules
