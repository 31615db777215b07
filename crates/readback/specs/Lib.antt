-- What the reader of a sheet as bits does.
pub mod ReadingBack
