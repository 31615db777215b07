-- What a bound on every entry says of one: it is within the bound, and so it is finite.
use Prim.Native.Nat.{ℕ, ◌<◌}
use mathlib.Core.Path.{◌≡◌}
use mathlib.Core.Bool.{Bool, true}
use mathlib.Core.List.{List}
use lib.Dec.{T}
use lib.IntN.{ℤ}
use lib.ListN.{length}
use lib.Ieee.{Float, nan, inf, fin, le, lt, eq}
use lib.Ieee.Scale.{finite}
use Rattle.seq.specs.Sums.{at}
use Rattle.seq.proofs.Choosing.{shown}
use Rattle.seq.proofs.Every.{every_at}
use Rattle.ieee.specs.Magnitude.{abs_of}
use Rattle.limits.specs.Limits.{bounded}

pub bounded_at : (most : Float) (matrix : List Float) → bounded most matrix ≡ true → (i : ℕ) → i < length matrix → T (le (abs_of (at matrix i)) most)
bounded_at most matrix h i l = shown (le (abs_of (at matrix i)) most) (every_at (λ i. le (abs_of (at matrix i)) most) (length matrix) i h l)

-- what is at most a finite value is finite
pub finite_within : (x : Float) (s : Bool) (m : ℕ) (e : ℤ) → T (le (abs_of x) (fin s m e)) → T (finite x)
finite_within nan s m e h = unfold le lt eq in absurd h
finite_within (inf t) s m e h = unfold le lt eq in absurd h
finite_within (fin t n d) s m e h = tt
