-- Laws of the change over the columns and over the rows.
pub mod Largest
pub mod ChangeMore
pub mod Nothing
