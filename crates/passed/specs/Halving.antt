-- A pass: the rest is coloured and halved twice, and the weights are divided by their sum of magnitudes.
-- A matrix is a function of the column and the row; it has n rows. z is what a sum starts from.
use Rattle.std.specs.Prelude.{ℕ, List, Float}
use Rattle.weights.specs.Weights.{normalized}
use Rattle.ranking.specs.Ranking.{rest_of, omega_of}
use Rattle.halved.specs.Halve.{Halved, halved_once}

-- twice
unfoldable pub halved_twice : Float → (ℕ → ℕ → Float) → ℕ → Halved → Halved
halved_twice z matrix n h =
    let rest : List ℕ = rest_of h.w in
    let omega : Float = omega_of h.w in
    halved_once z matrix n omega rest (halved_once z matrix n omega rest h)

-- and divided by their sum of magnitudes
unfoldable pub pass_of : Float → (ℕ → ℕ → Float) → ℕ → Halved → Halved
pass_of z matrix n h =
    let t : Halved = halved_twice z matrix n h in
    record { w = normalized z t.w; rng = t.rng; directions = t.directions; sweeps = t.sweeps }
