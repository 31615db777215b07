-- Laws of the entries, for every crate above.
pub mod Reading
