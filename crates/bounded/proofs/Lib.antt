-- No projection makes a vector longer but for rounding: sums, one projection, a division by the norm, a basis, and what is drawn.
pub mod Close
pub mod Within
pub mod Signed
pub mod Squares
pub mod Dot
pub mod Project
pub mod Norm
pub mod Roots
pub mod Taken
pub mod Bases
pub mod Loose
