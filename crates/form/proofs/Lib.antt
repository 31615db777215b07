-- Laws of the form of a sheet: how it is read, that what is taken is of the form, that what is of the form is taken, and that a longer text is answered as
-- its beginning is.
pub mod Rooms
pub mod Columns
pub mod Verdicts
pub mod Segments
pub mod Lines
pub mod Taken
pub mod OfForm
pub mod LongText
