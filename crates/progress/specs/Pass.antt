-- The two colourings of a pass: of the rest that remains, scaled, as it stands before each halving.
use Rattle.std.specs.Prelude.{ℕ, suc, length, Float}
use Rattle.seq.specs.Sums.{plus_zero}
use Rattle.ranking.specs.Ranking.{rest_of, omega_of}
use Rattle.doubling.specs.Doubling.{remaining}
use Rattle.halved.specs.Halve.{Halved, halved_once, scaled_columns}
use Rattle.progress.specs.Original.{GetsSomewhere}
use Rattle.progress.specs.Clear.{Clear}

-- what the first halving of a pass on h leaves
abbrev pub halved_first : (ℕ → ℕ → Float) → ℕ → Halved → Halved
halved_first matrix n h = halved_once plus_zero matrix n (omega_of h.w) (rest_of h.w) h

-- the matrix that a halving from t colours, in a pass on h
abbrev pub scaled_in : (ℕ → ℕ → Float) → ℕ → Halved → Halved → ℕ → ℕ → Float
scaled_in matrix n h t = scaled_columns matrix n t.w (omega_of h.w) (remaining t.w (rest_of h.w))

-- how many columns it has
abbrev pub left_in : Halved → Halved → ℕ
left_in h t = length (remaining t.w (rest_of h.w))

-- every phase of both colourings is clear
pub record PassClear (matrix : ℕ → ℕ → Float) (n : ℕ) (h : Halved) : Type 0 where
  pub first : Clear (scaled_in matrix n h h) (left_in h h) (suc n) h.rng
  pub second : let t = halved_first matrix n h in Clear (scaled_in matrix n h t) (left_in h t) (suc n) t.rng

-- every step of both gets somewhere
pub record PassGetsSomewhere (matrix : ℕ → ℕ → Float) (n : ℕ) (h : Halved) : Type 0 where
  pub first : GetsSomewhere (scaled_in matrix n h h) (left_in h h) (suc n) h.rng
  pub second : let t = halved_first matrix n h in GetsSomewhere (scaled_in matrix n h t) (left_in h t) (suc n) t.rng
