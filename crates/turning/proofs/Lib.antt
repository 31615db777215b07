-- No answer turns on the sign of a row or on the zero that a sum starts from: signs through the operations, lists in pairs, divisors that are
-- no zero; then the walk, local search, colourings, which rows turn in a pass, passes, stages.
pub mod Signed
pub mod Pairs
pub mod Divisors
pub mod Walks
pub mod Searches
pub mod Colourings
pub mod Turned
pub mod Passes
pub mod Stages
