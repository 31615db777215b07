-- Laws of the fields: what a digit says, how wide numbers are, the turns of the loops, what is written and read back.
pub mod Values
pub mod Widths
pub mod Turns
pub mod Chains
pub mod Puts
pub mod Numerals
pub mod BitsBack
pub mod CountsBack
pub mod Words
pub mod Longer
