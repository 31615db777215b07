-- Laws of lists in order, for any order; and that the order by magnitude is one.
pub mod Occurrences
pub mod Unique
pub mod Inserting
pub mod Heights
pub mod Ordered
pub mod Once
