-- What a pass does to a stage: fewer nonzeros, each with the sign that it had, normalised again; so what the next divides by is above 0 and finite.
use Prim.Native.Nat.{ℕ, zero, suc, ◌^◌, ◌≤◌, ◌<◌}
use mathlib.Core.Path.{◌≡◌, refl, sym, ap, ◌∙◌}
use mathlib.Core.Bool.{true, false}
use mathlib.Core.List.{List}
use native.Mathlib.Nat.{le_trans, le_of_eq}
use native.Mathlib.Omega.{arith}
use lib.Dec.{T}
use lib.IntN.{pos}
use lib.ListN.{length}
use lib.Ieee.{Float, nan, binary64, of_bits, fits, div, le, lt, ne, low}
use lib.Ieee.Scale.{finite}
use Rattle.seq.specs.Sums.{plus_zero, at}
use Rattle.seq.proofs.Filling.{get_or-tab}
use Rattle.ieee.specs.Magnitude.{abs_of}
use Rattle.ieee.specs.Units.{mag}
use Rattle.ieee.proofs.Ops.{Finite, Positive, finite_number}
use Rattle.ieee.proofs.Ranks.{le→mag}
use Rattle.ieee.proofs.Sums.{abs_mag, abs_size}
use Rattle.ieee.proofs.Division.{unit, unit_is, unit-mag, unit_number}
use Rattle.ieee.proofs.Signs.{SameSign, nought, nought_is}
use Rattle.ieee.proofs.Norms.{l1}
use Rattle.ieee.proofs.Normalised.{Normal, normalised}
use Rattle.ieee.proofs.Tests.{positive_of_tests}
use Rattle.ieee.proofs.Zeros.{sum_fits}
use Rattle.limits.specs.Limits.{bounded}
use Rattle.limits.proofs.Bounded.{bounded_at, finite_within}
use Rattle.ieee.specs.Constants.{one}
use Rattle.weights.specs.Weights.{is_on, l1_of, sound, over_at, normalized}
use Rattle.halved.specs.Halve.{Halved}
use Rattle.passed.proofs.Fewer.{sum, sum-sound, pass_normal, pass_same_sign}
use Rattle.passed.proofs.Quarter.{pass_half}
use Rattle.stages.specs.Stages.{stage_of}
use Rattle.stages.specs.Among.{Among}
use Rattle.seq.proofs.Choosing.{both, holds, shown}
use Rattle.stages.proofs.Halting.{Leads, Falls}
use Rattle.stages.proofs.Lengths.{length-stage, length-normalized}
use Rattle.draw.specs.declared.SplitMix64.{SplitMix64}

-- what the laws of a pass say of signs, in the words of the tests
among_signs : (v w : List Float) → ((j : ℕ) → j < length v → is_on w j ≡ true → SameSign (at v j) (at w j)) → Among v w
among_signs v w each =
    record {
      on = λ j l o. ap (ne (at v j)) nought_is ∙ holds (ne (at v j) nought) (each j l o).nonzero-before;
      above = λ j l o. ap (λ x. lt x (at w j)) nought_is ∙ (each j l o).above_too ∙ sym (ap (λ x. lt x (at v j)) nought_is);
      under = λ j l o. ap (lt (at w j)) nought_is ∙ (each j l o).under_too ∙ sym (ap (lt (at v j)) nought_is);
    }

module _ (matrix : ℕ → ℕ → Float) (n : ℕ) (start : List Float) (source : SplitMix64) (normal : Normal binary64 (length start) (at start))
    (few : length start ≤ 256) where
  abbrev stage : ℕ → Halved
  stage = stage_of plus_zero matrix n start source

  few_at : (i : ℕ) → length (stage i).w ≤ 256
  few_at i = rw (length-stage plus_zero matrix n start source i) few

  -- every stage that a job may come to is normalised
  pub normal_stage : (i : ℕ) → Leads plus_zero matrix n start source i → Normal binary64 (length (stage i).w) (at (stage i).w)
  unfolding stage_of
  normal_stage zero g = normal
  normal_stage (suc i) g =
      rw (length-stage plus_zero matrix n start source (suc i) ∙ sym (length-stage plus_zero matrix n start source i))
      (pass_normal matrix n (stage i) (g i (omega arith)) (normal_stage i (λ j l. g j (omega arith))) (few_at i))

  -- so what the pass from it divides by is above 0 and finite
  pub stage-sound : (i : ℕ) → Leads plus_zero matrix n start source (suc i) → sound (sum plus_zero matrix n (stage i)) ≡ true
  stage-sound i g = sum-sound matrix n (stage i) (g i (omega arith)) (normal_stage i (λ j l. g j (omega arith))) (few_at i)

  -- and it leaves at most half
  pub falling : Falls plus_zero matrix n start source
  unfolding stage_of
  falling i g = pass_half plus_zero matrix n (stage i) (g i (omega arith)) (stage-sound i g)

  -- signs are kept
  pub signed-stage : (i : ℕ) → Leads plus_zero matrix n start source (suc i) → Among (stage i).w (stage (suc i)).w
  unfolding stage_of
  signed-stage i g =
      let each : (j : ℕ) → j < length (stage i).w → is_on (stage (suc i)).w j ≡ true → SameSign (at (stage i).w j) (at (stage (suc i)).w j) =
      pass_same_sign matrix n (stage i) (g i (omega arith)) (normal_stage i (λ j l. g j (omega arith))) (few_at i) in
      among_signs (stage i).w (stage (suc i)).w each

-- weights that are at most 1 in magnitude are normalised
pub normal_bounded : (w : List Float) → ((j : ℕ) → j < length w → T (fits binary64 (at w j))) → bounded one w ≡ true → Normal binary64 (length w) (at w)
normal_bounded w held small = record { ends = λ j l. is_finite j l; small = λ j l. magnitude j l }
  where
    within : (j : ℕ) → j < length w → T (le (abs_of (at w j)) unit)
    within j l = rw (← unit_is) (bounded_at one w small j l)

    is_finite : (j : ℕ) → j < length w → Finite binary64 (at w j)
    is_finite j l = record { held = held j l; ends = finite_within (at w j) false 1 (pos 0) (within j l) }

    magnitude : (j : ℕ) → j < length w → mag binary64 (at w j) ≤ 2 ^ low binary64
    magnitude j l =
        let size = abs_size (finite_number (is_finite j l)) in
        le_trans (le_of_eq (sym (abs_mag binary64 (at w j))))
        (le_trans (le→mag size.number (unit_number binary64) size.plus refl (within j l)) (le_of_eq (unit-mag binary64)))

-- the normalized weights of an accepted job are normalised
pub normal_start : (w : List Float) → ((j : ℕ) → T (fits binary64 (at w j))) → ((j : ℕ) → j < length w → T (finite (at w j))) → sound (l1_of plus_zero w) ≡ true
    → Normal binary64 (length (normalized plus_zero w)) (at (normalized plus_zero w))
unfolding normalized l1_of of_bits
normal_start w held ends total =
    let e = both (lt plus_zero (l1_of plus_zero w)) (finite (l1_of plus_zero w)) total in
    let p : Positive binary64 (l1 binary64 (at w) (length w)) =
    positive_of_tests (sum_fits binary64 (λ j. abs_of (at w j)) (length w)) (shown (finite (l1_of plus_zero w)) e.1)
    (shown (lt plus_zero (l1_of plus_zero w)) e.0) in
    let n = normalised binary64 (at w) (length w) (λ j l. record { held = held j; ends = ends j l }) p in
    let same : (j : ℕ) → j < length (normalized plus_zero w) → at (normalized plus_zero w) j ≡ div binary64 (at w j) (l1 binary64 (at w) (length w)) =
    λ j l. get_or-tab (over_at (l1_of plus_zero w) w) (length w) j nan (rw (length-normalized plus_zero w) at l) in
    record {
      ends = λ j l. rw (same j l) (n.ends j (rw (length-normalized plus_zero w) at l));
      small = λ j l. rw (same j l) (n.small j (rw (length-normalized plus_zero w) at l));
    }
