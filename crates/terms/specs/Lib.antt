-- What the series' terms and sums are; Turns is what its functions tell each other.
pub mod Terms
pub mod Turns
