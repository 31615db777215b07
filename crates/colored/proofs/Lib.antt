-- Laws of a colouring.
pub mod Marked
pub mod Phases
pub mod Colours
pub mod Counts
pub mod Walks
pub mod SameColumns
