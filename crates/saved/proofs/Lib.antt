-- Laws of what is saved: the lines of a text; that the good sheet is taken, and a good one unchanged; where only "bad" is written; no second answer.
pub mod Newlines
pub mod Texts
pub mod Good
pub mod Same
pub mod Bad
pub mod Sole
