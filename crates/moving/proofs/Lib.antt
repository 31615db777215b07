-- Laws of the list: that its changes are finite, what is refused, and what the list is.
pub mod Bounds
pub mod Numbers
pub mod Listing
pub mod Promises
pub mod Empty
