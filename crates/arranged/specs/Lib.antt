-- What it means that a list of row numbers is in order.
pub mod Arranged
