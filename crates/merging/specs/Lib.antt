-- The merge of two lists.
pub mod Merged
