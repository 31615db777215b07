-- What these calls on bits answer and leave.
pub mod Polls
