-- The walk as the original makes it, and which matrices it is the same for.
pub mod Original
pub mod Clear
pub mod Pass
