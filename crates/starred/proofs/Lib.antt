-- That the starred cases hold.
pub mod SheetCases
pub mod Starred
