-- Laws of the items of one call.
pub mod Joining
pub mod Turns
pub mod Lending
pub mod Closing
pub mod Testing
pub mod Singles
pub mod SoleAll
pub mod AmongItems
pub mod AsDoubles
