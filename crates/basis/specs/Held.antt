-- Told between functions: how a basis stands in a slice, vector after vector, each l long, and what one turn of a pass leaves.
use Rattle.std.specs.Prelude.{ℕ, ◌*◌, ◌≡◌, List, length, Float}
use Rattle.seq.specs.Lists.{tabulate, part}
use Rattle.linear.specs.Vectors.{dot_of}
use Rattle.basis.specs.Basis.{less_at, inserted}

-- the first count vectors of the slice b
abbrev pub vectors_in : ℕ → ℕ → List Float → List (List Float)
vectors_in l count b = tabulate (λ k. part (k * l) l b) count

-- v' is v - c q, and s is what is left of it along r
pub record LessAndAlong (z : Float) (v : List Float) (c : Float) (q r : List Float) (s : Float) (v' : List Float) : Type 0 where
  pub less : v' ≡ tabulate (less_at c q v) (length v)
  pub along : s ≡ dot_of z r (tabulate (less_at c q v) (length v))

-- r is the number of vectors after v was offered to the count vectors in b, and b' holds them
pub record Inserted (z : Float) (count l : ℕ) (b v : List Float) (r : ℕ) (b' : List Float) : Type 0 where
  pub counts : r ≡ length (inserted z l (vectors_in l count b) v)
  pub holds : vectors_in l r b' ≡ inserted z l (vectors_in l count b) v
