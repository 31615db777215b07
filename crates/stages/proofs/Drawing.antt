-- How far a job moves the generator: each direction is of a colouring of at most as many columns as there are weights, so that it takes at most as many
-- Gaussians, and twice as many outputs.
use Prim.Native.Nat.{ℕ, zero, suc, ◌+◌, ◌*◌, ◌≤◌}
use mathlib.Core.Path.{◌≡◌, refl, ap, ◌∙◌}
use mathlib.Core.Bool.{Bool, true, false}
use mathlib.Core.List.{List}
use native.Mathlib.Omega.{arith}
use native.Mathlib.Nat.{le_refl, mul-le-mul}
use lib.Dec.{eqb}
use lib.ListN.{length}
use lib.Ieee.{Float}
use Rattle.seq.specs.Choice.{pick}
use Rattle.seq.specs.Sums.{plus_zero}
use Rattle.seq.proofs.Keeping.{count_short}
use Rattle.draw.specs.SplitMix.{after_of}
use Rattle.draw.specs.declared.SplitMix64.{SplitMix64}
use Rattle.direction.specs.Direction.{after_draws}
use Rattle.walked.proofs.Counts.{draws_more}
use Rattle.colored.specs.Coloring.{Colored, coloring_of}
use Rattle.colored.specs.Draws.{after_outputs, Moved}
use Rattle.colored.proofs.Counts.{moved}
use Rattle.weights.specs.Weights.{is_on, nonzeros}
use Rattle.ranking.specs.Ranking.{rest_of, omega_of}
use Rattle.doubling.specs.Doubling.{remaining}
use Rattle.doubling.proofs.Turns.{those_short}
use Rattle.halved.specs.Halve.{Halved, scaled_columns, halved_by, halved_once}
use Rattle.passed.specs.Halving.{halved_twice, pass_of}
use Rattle.passed.proofs.Rest.{length_rest}
use Rattle.rules.specs.Rules.{rule_fault}
use Rattle.rules.specs.declared.Rule.{Rule}
use Rattle.stages.specs.Stages.{stage_of}
use Rattle.stages.specs.Stopping.{stop_of, passes_to}
use Rattle.stages.proofs.Halting.{Falls}
use Rattle.stages.proofs.Lengths.{length-stage}
use Rattle.stages.proofs.Totals.{job_directions}

-- outputs after outputs
outputs_more : (rng : SplitMix64) (j k : ℕ) → after_outputs (after_outputs rng j) k ≡ after_outputs rng (k + j)
unfolding after_outputs
outputs_more rng j zero = ap (after_outputs rng) (let q : j ≡ 0 + j = omega arith in q)
outputs_more rng j (suc k) = ap after_of (outputs_more rng j k) ∙ ap (after_outputs rng) (let q : suc (k + j) ≡ suc k + j = omega arith in q)

-- a colouring of at most m columns after what was drawn before
further-moved : {m k first second : ℕ} {source rng after : SplitMix64} → k ≤ m → Moved m first source rng → Moved k second rng after
    → Moved m (first + second) source after
further-moved {m} {k} {first} {second} {source} few before last =
    record {
      gaussians = last.gaussians + before.gaussians;
      most = omega (arith, before.most, last.most, mul-le-mul few (le_refl second));
      stands = last.stands ∙ ap (λ (r : SplitMix64). after_draws r last.gaussians) before.stands
          ∙ draws_more source before.gaussians last.gaussians;
      outputs = last.outputs ∙ ap (λ (r : SplitMix64). after_outputs r (2 * last.gaussians)) before.outputs
          ∙ outputs_more source (2 * before.gaussians) (2 * last.gaussians)
          ∙ ap (after_outputs source) (let q : 2 * last.gaussians + 2 * before.gaussians ≡ 2 * (last.gaussians + before.gaussians) = omega arith in q);
    }

-- the generator of h stands where its directions have moved it
abbrev pub Drew : ℕ → SplitMix64 → Halved → Type 0
Drew m source h = Moved m h.directions source h.rng

module _ (z : Float) (matrix : ℕ → ℕ → Float) (n m : ℕ) (source : SplitMix64) where
  once-drew : (ω : Float) (rest : List ℕ) (h : Halved) → length rest ≤ m → Drew m source h → Drew m source (halved_once z matrix n ω rest h)
  unfolding halved_once
  once-drew ω rest h few before = go (eqb (length some) 0)
    where
      some : List ℕ
      some = remaining h.w rest

      c : Colored
      c = coloring_of z (scaled_columns matrix n h.w ω some) (length some) (suc n) h.rng

      go : (t : Bool) → Drew m source (pick t h (halved_by h some c))
      go true = before
      go false =
          further-moved (let l = those_short (is_on h.w) rest (length rest) in omega (arith, l, few)) before
          (moved z (scaled_columns matrix n h.w ω some) (length some) (suc n) h.rng)

  pass_drew : (h : Halved) → length h.w ≤ m → Drew m source h → Drew m source (pass_of z matrix n h)
  unfolding pass_of halved_twice
  pass_drew h few before =
      let short : length (rest_of h.w) ≤ m = omega (arith, length_rest h.w, count_short (is_on h.w) (length h.w), few) in
      once-drew (omega_of h.w) (rest_of h.w) (halved_once z matrix n (omega_of h.w) (rest_of h.w) h) short
      (once-drew (omega_of h.w) (rest_of h.w) h short before)

module _ (matrix : ℕ → ℕ → Float) (n : ℕ) (start : List Float) (source : SplitMix64) where
  -- where the generator stands at stage i
  pub stage-drew : (i : ℕ) → Drew (length start) source (stage_of plus_zero matrix n start source i)
  unfolding stage_of after_draws after_outputs
  stage-drew zero = record { gaussians = 0; most = omega arith; stands = refl; outputs = refl }
  stage-drew (suc i) =
      pass_drew plus_zero matrix n (length start) source (stage_of plus_zero matrix n start source i)
      (rw (length-stage plus_zero matrix n start source i) (le_refl (length start))) (stage-drew i)

  -- so a job on m weights draws at most 8 m² Gaussians, and 16 m² outputs
  module _ (falls : Falls plus_zero matrix n start source) (few : length start ≤ 256) (rule : Rule) (accepted : rule_fault rule ≡ 0) where
    abbrev drew : Drew (length start) source (stage_of plus_zero matrix n start source
        (passes_to plus_zero matrix n start source rule (stop_of plus_zero matrix n start source rule)))
    drew = stage-drew (passes_to plus_zero matrix n start source rule (stop_of plus_zero matrix n start source rule))

    pub job_gaussians : drew.gaussians ≤ 8 * (length start * length start)
    job_gaussians =
        omega (arith, drew.most, mul-le-mul (le_refl (length start)) (job_directions matrix n start source falls few rule accepted))

    pub job_outputs : 2 * drew.gaussians ≤ 16 * (length start * length start)
    job_outputs = omega (arith, job_gaussians)
