-- The laws of a phase's start.
mod Starting
