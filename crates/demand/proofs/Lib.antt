-- The laws of two jobs and of one: the second is no earlier, its entries stand among the first's, and each keeps what its rule asks.
pub mod Unmoved
pub mod Monotone
pub mod DemandThree
pub mod Settled
pub mod Hundred
pub mod Along
