-- Laws of a phase on the free columns.
pub mod Inside
