-- Weights, packed: the lists, and that they determine the weights.
pub mod Packs
pub mod Determined
