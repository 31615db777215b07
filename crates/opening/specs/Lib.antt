-- What the first line of a sheet wishes for.
pub mod Wishes
