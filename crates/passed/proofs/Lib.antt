-- Laws of one pass.
pub mod Rest
pub mod Fates
pub mod Minority
pub mod Zeros
pub mod Fewer
pub mod Holding
pub mod Heaviest
pub mod Quarter
pub mod Few
pub mod Calls
pub mod Left
pub mod Adding
