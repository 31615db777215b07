-- The starred cases: the bytes of their sheets, and the one table.
pub mod SheetBytes
pub mod Cases
