-- What a direct colouring answers and leaves, and what it is lent.
pub mod Discrepancy
pub mod Lent
