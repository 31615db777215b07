-- Laws of a scaled column of bits.
pub mod VotesRows
pub mod Under
