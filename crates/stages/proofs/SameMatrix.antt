-- The stages of a job read a matrix only at its columns and rows: two matrices with the same entries there have the same stages, the same changes, the same
-- stop, the same passes and the same path.
use Prim.Native.Nat.{ℕ, zero, suc, ◌≤◌, ◌<◌}
use mathlib.Core.Path.{◌≡◌, refl, ap, ◌∙◌}
use mathlib.Core.Bool.{Bool, true, false}
use mathlib.Core.List.{List}
use native.Mathlib.Omega.{arith}
use lib.Dec.{T, ltb, ltb→lt}
use lib.ListN.{length, get_or}
use lib.Ieee.{Float, binary64, mul}
use Rattle.seq.specs.Choice.{pick}
use Rattle.seq.specs.Indices.{Below}
use Rattle.ieee.specs.Magnitude.{abs_of}
use Rattle.draw.specs.declared.SplitMix64.{SplitMix64}
use Rattle.colored.proofs.SameColumns.{coloring_same}
use Rattle.margins.proofs.SameEntries.{largest_same}
use Rattle.doubling.specs.Doubling.{remaining, scale_at}
use Rattle.ranking.specs.Ranking.{rest_of, omega_of}
use Rattle.halved.specs.Halve.{Halved, scaled_columns, halved_once}
use Rattle.halved.proofs.Calls.{remaining-below}
use Rattle.passed.specs.Halving.{halved_twice, pass_of}
use Rattle.passed.proofs.Calls.{rest_below}
use Rattle.rules.specs.declared.Rule.{Rule}
use Rattle.stages.specs.Stages.{stage_of, moved_by, path_nonzeros_of, path_change_of}
use Rattle.stages.specs.Stopping.{stop_of, passes_to}
use Rattle.stages.proofs.Lengths.{length-stage}
use Rattle.stages.proofs.SameStages as sameStages

module _ (a b : ℕ → ℕ → Float) (m n : ℕ) (same : (j i : ℕ) → j < m → i < n → a j i ≡ b j i) where
  scaled_same : (w : List Float) (ω : Float) (r : List ℕ) → Below r m → (p i : ℕ) → p < length r → i < suc n
      → scaled_columns a n w ω r p i ≡ scaled_columns b n w ω r p i
  scaled_same w ω r below p i h l = go (ltb i n) (λ t. same (get_or r p 0) i (below.below p h) (ltb→lt i n t))
    where
      go : (t : Bool) → (T t → a (get_or r p 0) i ≡ b (get_or r p 0) i)
          → pick t (mul binary64 (a (get_or r p 0) i) (scale_at w ω r p)) (abs_of (scale_at w ω r p))
          ≡ pick t (mul binary64 (b (get_or r p 0) i) (scale_at w ω r p)) (abs_of (scale_at w ω r p))
      go true k = ap (λ (x : Float). mul binary64 x (scale_at w ω r p)) (k tt)
      go false k = refl

  -- one halving
  once_same : (z ω : Float) (rest : List ℕ) (h : Halved) → Below rest m → halved_once z a n ω rest h ≡ halved_once z b n ω rest h
  unfolding halved_once
  once_same z ω rest h below =
      let r : List ℕ = remaining h.w rest in
      rw (coloring_same (scaled_columns a n h.w ω r) (scaled_columns b n h.w ω r) (length r) (suc n)
      (scaled_same h.w ω r (remaining-below h.w rest m below)) z h.rng)

  -- one pass
  pass_same : (z : Float) (h : Halved) → length h.w ≡ m → pass_of z a n h ≡ pass_of z b n h
  unfolding pass_of halved_twice
  pass_same z h e =
      let rest : List ℕ = rest_of h.w in
      let ω : Float = omega_of h.w in
      let below : Below rest m = rw (← e) (rest_below h.w rest refl) in
      rw (once_same z ω rest h below, once_same z ω rest (halved_once z b n ω rest h) below)

  module _ (z : Float) (start : List Float) (source : SplitMix64) (long : length start ≡ m) where
    pub stage_same : (i : ℕ) → stage_of z a n start source i ≡ stage_of z b n start source i
    unfolding stage_of
    stage_same zero = refl
    stage_same (suc i) =
        ap (pass_of z a n) (stage_same i) ∙ pass_same z (stage_of z b n start source i) (length-stage z b n start source i ∙ long)

    pub moved_same : (i : ℕ) → moved_by a n start (stage_of z a n start source i) ≡ moved_by b n start (stage_of z b n start source i)
    moved_same i = rw (stage_same i, long) (largest_same a b m n same start (stage_of z b n start source i).w)

    -- the stage at which a job stops
    pub stop_same : (rule : Rule) → stop_of z a n start source rule ≡ stop_of z b n start source rule
    stop_same = sameStages.stop_same z z a b n start source stage_same moved_same

    -- its passes
    pub passes_same : (rule : Rule) (i : ℕ) → passes_to z a n start source rule i ≡ passes_to z b n start source rule i
    passes_same = sameStages.passes_same z z a b n start source stage_same moved_same
