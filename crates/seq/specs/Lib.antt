-- The vocabulary of the definitions: a choice, lists by index, indices of lists, marks, running sums, a sort, a selection, a loop,
-- places passed over.
pub mod Choice
pub mod Lists
pub mod Indices
pub mod Marks
pub mod Sums
pub mod Sort
pub mod Keep
pub mod Until
pub mod Passing
