-- Laws of the basis.
pub mod Bases
