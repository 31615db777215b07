-- Laws of labels, of the margins that they give, and of what the call answers.
pub mod Labels
pub mod Margins
pub mod Outcomes
pub mod Sole
