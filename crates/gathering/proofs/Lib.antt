-- Laws of what is held: a line that is held in part, lines by their index, and what is held after a byte, a piece and a text.
pub mod Cut
pub mod Indexed
pub mod Bytewise
pub mod Parted
