-- The laws of the root, in the order in which they build on each other. The last says that the root is right for every double.
pub mod RootFloor
pub mod RootRounding
pub mod RootPattern
pub mod RootDigits
pub mod RootCases
pub mod RootResults
pub mod RootNearest
