-- What several jobs on one matrix answer and leave.
pub mod Items
pub mod All
pub mod Lent
pub mod Between
