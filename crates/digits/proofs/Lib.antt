-- Laws of the guess.
pub mod RootGuess
