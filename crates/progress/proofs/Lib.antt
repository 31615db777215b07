-- Every step of a colouring gets somewhere: a walk within its phase, its steps, phases, colourings; directions; entries, passes, and direct calls.
pub mod Standing
pub mod Steps
pub mod Phases
pub mod Colourings
pub mod Directions
pub mod Fairness
pub mod Passes
pub mod EveryStep
