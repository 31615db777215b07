-- What the C interface adds to the definitions.
pub mod Version
pub mod Caps
pub mod Draws
