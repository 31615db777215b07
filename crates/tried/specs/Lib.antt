-- One more pass, tried.
pub mod Trial
