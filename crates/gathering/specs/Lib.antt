-- A damaged sheet by lines, which of them are kept, and what is held of it.
pub mod Lines
pub mod Kept
pub mod Steps
