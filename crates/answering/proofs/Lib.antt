-- Laws of the answer's text: what is put in a buffer piece by piece, and how long each line is.
pub mod Puts
pub mod Lines
