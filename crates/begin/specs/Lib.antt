-- The start of a phase: the definition, and what its functions leave in the scratch.
pub mod Begin
pub mod Beginning
