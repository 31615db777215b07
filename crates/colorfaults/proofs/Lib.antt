-- Laws of what a direct colouring answers and leaves.
pub mod Accepted
pub mod OwnColumns
pub mod Fronts
pub mod Outcomes
pub mod Unique
