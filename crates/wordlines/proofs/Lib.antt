-- Laws of those lines.
pub mod Listing
