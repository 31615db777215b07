-- One halving: the remaining rest coloured, and halved by the colours.
-- A matrix is a function of the column and the row; it has n rows. z is what a sum starts from.
use Rattle.std.specs.Prelude.{ℕ, suc, ◌+◌, List, ltb, eqb, length, get_or, Float}
use Rattle.std.specs.Float.{binary64}
use Rattle.std.specs.Float.Ieee.{mul}
use Rattle.seq.specs.Choice.{pick}
use Rattle.ieee.specs.Magnitude.{abs_of}
use Rattle.colored.specs.Coloring.{Colored, coloring_of}
use Rattle.doubling.specs.Doubling.{remaining, scale_at, sigma_of, halved_to}
use Rattle.draw.specs.declared.SplitMix64.{SplitMix64}

-- the columns of some indices, each scaled by its weight over ω, with the row of the scales' magnitudes under them
abbrev pub scaled_columns : (ℕ → ℕ → Float) → ℕ → List Float → Float → List ℕ → ℕ → ℕ → Float
scaled_columns matrix n w omega rest p i =
    pick (ltb i n) (mul binary64 (matrix (get_or rest p 0) i) (scale_at w omega rest p)) (abs_of (scale_at w omega rest p))

-- weights, the generator that runs on, and how many directions were drawn and how many sweeps made on the way to them
pub record Halved : Type 0 where
  pub w : List Float
  pub rng : SplitMix64
  pub directions : ℕ
  pub sweeps : ℕ

-- the weights at some indices halved by their colours; what the colouring drew and swept is added
abbrev pub halved_by : Halved → List ℕ → Colored → Halved
halved_by h some c = record {
  w = halved_to h.w some c.x (sigma_of c.x) (length some);
  rng = c.rng;
  directions = h.directions + c.directions;
  sweeps = h.sweeps + c.sweeps;
}

-- the remaining rest coloured and halved, where there is any
unfoldable pub halved_once : Float → (ℕ → ℕ → Float) → ℕ → Float → List ℕ → Halved → Halved
halved_once z matrix n omega rest h =
    let r : List ℕ = remaining h.w rest in
    let c : Colored = coloring_of z (scaled_columns matrix n h.w omega r) (length r) (suc n) h.rng in
    pick (eqb (length r) 0) h (halved_by h r c)
