-- What a call on labels and confidences means.
pub mod Votes
