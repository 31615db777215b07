-- A colouring, how many directions and sweeps it has, and what its functions tell each other.
pub mod Coloring
pub mod Draws
pub mod Fresh
