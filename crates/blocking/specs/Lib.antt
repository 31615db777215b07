-- What freezing and blocking do, and what is held meanwhile.
pub mod Freeze
pub mod Held
