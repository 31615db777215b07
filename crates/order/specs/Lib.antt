-- The order of the rows.
pub mod Order
