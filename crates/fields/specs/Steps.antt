-- Told between functions: what one that writes at a place of a buffer says of it.
use Rattle.std.specs.Prelude.{ℕ, ◌+◌, ◌≡◌, List, length}
use Rattle.seq.specs.Lists.{placed}

-- the text was put at a place of a buffer, and ends at r
pub record WroteOn (text : List ℕ) (at : ℕ) (out : List ℕ) (r : ℕ) (out' : List ℕ) : Type 0 where
  pub ends : r ≡ at + length text
  pub puts : out' ≡ placed at (length text) out text
