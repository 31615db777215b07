-- Laws of a direction and of the step along it.
pub mod Turning
