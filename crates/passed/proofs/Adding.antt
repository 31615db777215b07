-- What a pass adds to the counts: at most four directions for each weight that is not 0, and at most 200 sweeps.
use Prim.Native.Nat.{ℕ, ◌*◌}
use native.Mathlib.Omega.{arith}
use lib.Ieee.{Float}
use Rattle.weights.specs.Weights.{nonzeros}
use Rattle.ranking.specs.Ranking.{rest_of, omega_of}
use Rattle.halved.specs.Halve.{Halved, halved_once}
use Rattle.halved.proofs.Adding.{Adds, once_adds}
use Rattle.passed.specs.Halving.{halved_twice, pass_of}
use Rattle.passed.proofs.Rest.{length_rest}

pub pass_adds : (z : Float) (matrix : ℕ → ℕ → Float) (n : ℕ) (h : Halved) → Adds (4 * nonzeros h.w) 200 h (pass_of z matrix n h)
unfolding pass_of halved_twice
pass_adds z matrix n h =
    let first = once_adds z matrix n (omega_of h.w) (rest_of h.w) h in
    let second = once_adds z matrix n (omega_of h.w) (rest_of h.w) (halved_once z matrix n (omega_of h.w) (rest_of h.w) h) in
    record {
      drawn = omega (arith, first.drawn, second.drawn, length_rest h.w);
      swept = omega (arith, first.swept, second.swept);
    }
