-- Every stage is as long as the weights that it starts from.
use Prim.Native.Nat.{ℕ, zero, suc}
use mathlib.Core.Path.{◌≡◌, refl, ◌∙◌}
use mathlib.Core.Bool.{Bool, true, false}
use mathlib.Core.List.{List}
use lib.Dec.{eqb}
use lib.ListN.{length, get_or, length-set}
use lib.Ieee.{Float}
use Rattle.seq.specs.Choice.{pick}
use Rattle.seq.proofs.Filling.{length-tab}
use Rattle.colored.specs.Coloring.{Colored, coloring_of}
use Rattle.weights.specs.Weights.{normalized}
use Rattle.ranking.specs.Ranking.{rest_of, omega_of}
use Rattle.halved.specs.Halve.{Halved, scaled_columns, halved_by, halved_once}
use Rattle.doubling.specs.Doubling.{remaining, sigma_of, halved_to}
use Rattle.passed.specs.Halving.{halved_twice, pass_of}
use Rattle.stages.specs.Stages.{stage_of}
use Rattle.draw.specs.declared.SplitMix64.{SplitMix64}

pub length-normalized : (z : Float) (w : List Float) → length (normalized z w) ≡ length w
unfolding normalized
length-normalized z w = length-tab _ (length w)

length_halved : (w : List Float) (rest : List ℕ) (x : List Float) (sigma : Float) (k : ℕ) → length (halved_to w rest x sigma k) ≡ length w
unfolding halved_to
length_halved w rest x sigma zero = refl
length_halved w rest x sigma (suc k) = length-set (halved_to w rest x sigma k) (get_or rest k 0) _ ∙ length_halved w rest x sigma k

length-once : (z : Float) (matrix : ℕ → ℕ → Float) (n : ℕ) (omega : Float) (rest : List ℕ) (h : Halved) → length (halved_once z matrix n omega rest h).w
    ≡ length h.w
unfolding halved_once
length-once z matrix n omega rest h =
    let r : List ℕ = remaining h.w rest in
    let c : Colored = coloring_of z (scaled_columns matrix n h.w omega r) (length r) (suc n) h.rng in
    go (eqb (length r) 0) (halved_by h r c)
    (length_halved h.w r c.x (sigma_of c.x) (length r))
  where
    go : (t : Bool) (k : Halved) → length k.w ≡ length h.w → length (pick t h k).w ≡ length h.w
    go true k e = refl
    go false k e = e

pub length_pass : (z : Float) (matrix : ℕ → ℕ → Float) (n : ℕ) (h : Halved) → length (pass_of z matrix n h).w ≡ length h.w
unfolding pass_of halved_twice
length_pass z matrix n h =
    length-normalized z (halved_once z matrix n (omega_of h.w) (rest_of h.w) (halved_once z matrix n (omega_of h.w) (rest_of h.w) h)).w
    ∙ length-once z matrix n (omega_of h.w) (rest_of h.w) (halved_once z matrix n (omega_of h.w) (rest_of h.w) h)
    ∙ length-once z matrix n (omega_of h.w) (rest_of h.w) h

pub length-stage : (z : Float) (matrix : ℕ → ℕ → Float) (n : ℕ) (start : List Float) (source : SplitMix64) (i : ℕ)
    → length (stage_of z matrix n start source i).w ≡ length start
unfolding stage_of
length-stage z matrix n start source zero = refl
length-stage z matrix n start source (suc i) = length_pass z matrix n (stage_of z matrix n start source i) ∙ length-stage z matrix n start source i
