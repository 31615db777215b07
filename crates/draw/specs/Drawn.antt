-- Told between functions: what the logarithm, the cosine and both their bounds ask of a uniform, of whichever edition.
use Rattle.std.specs.Prelude.{false, T, pos, negsuc, Float}
use Rattle.std.specs.Float.{fin, binary64}
use Rattle.std.specs.Float.Ieee.{fits, le}

abbrev pub least : Float
least = fin false 1 (negsuc 53)

abbrev pub one : Float
one = fin false 1 (pos 0)

-- u is a double from 2 ^ -54 up and at most 1
pub record Drawn (u : Float) : Type 0 where
  pub held : T (fits binary64 u)
  pub from : T (le least u)
  pub upto : T (le u one)
