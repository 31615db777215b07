-- The laws of the order by magnitude.
mod Ordering
