-- How much a job draws and sweeps: a pass draws at most four directions for each nonzero and leaves at most half of them, so that all its passes draw
-- at most eight for each weight; and a pass makes at most 200 sweeps.
use Prim.Native.Nat.{ℕ, zero, suc, ◌+◌, ◌*◌, ◌≤◌, ◌<◌}
use mathlib.Core.Path.{◌≡◌, refl}
use mathlib.Core.Bool.{Bool, true, false}
use mathlib.Core.List.{List}
use native.Mathlib.Omega.{arith}
use native.Mathlib.Decide.{dec_lt}
use native.Mathlib.Nat.{mul-le-mul}
use lib.ListN.{length}
use lib.Ieee.{Float}
use Rattle.seq.specs.Choice.{pick}
use Rattle.seq.specs.Sums.{plus_zero}
use Rattle.seq.proofs.Choosing.{never}
use Rattle.seq.proofs.Keeping.{count_short}
use Rattle.weights.specs.Weights.{is_on}
use Rattle.halved.specs.Handed.{Countable}
use Rattle.passed.proofs.Adding.{pass_adds}
use Rattle.rules.specs.Rules.{rule_fault}
use Rattle.stages.specs.Stages.{stage_of}
use Rattle.stages.specs.Stopping.{entries_at, rests, stop_of, passes_to}
use Rattle.colored.specs.declared.Counted.{Counted}
use Rattle.rules.specs.declared.Rule.{Rule}
use Rattle.stages.proofs.Halting.{Leads, Falls, few_rests, leads}
use Rattle.stages.proofs.Lengths.{length-stage}
use Rattle.stages.proofs.Following.{Tallied, nine_stages}
use Rattle.draw.specs.declared.SplitMix64.{SplitMix64}

module _ (z : Float) (matrix : ℕ → ℕ → Float) (n : ℕ) (start : List Float) (source : SplitMix64) where
  entries_few : (i : ℕ) → entries_at z matrix n start source i ≤ length start
  entries_few i =
      let w : List Float = (stage_of z matrix n start source i).w in
      omega (arith, count_short (is_on w) (length w), length-stage z matrix n start source i)

  -- of any stage, whether a job comes to it or not
  pub directions_at : (i : ℕ) → (stage_of z matrix n start source i).directions ≤ 4 * (length start * i)
  unfolding stage_of
  directions_at zero = omega arith
  directions_at (suc i) = omega (arith, (pass_adds z matrix n (stage_of z matrix n start source i)).drawn, directions_at i, entries_few i)

  pub sweeps_at : (i : ℕ) → (stage_of z matrix n start source i).sweeps ≤ 200 * i
  unfolding stage_of
  sweeps_at zero = omega arith
  sweeps_at (suc i) = omega (arith, (pass_adds z matrix n (stage_of z matrix n start source i)).swept, sweeps_at i)

  -- of a stage that a job may come to
  pub directions_led : Falls z matrix n start source → (i : ℕ) → Leads z matrix n start source i
      → (stage_of z matrix n start source i).directions + 8 * entries_at z matrix n start source i ≤ 8 * length start
  unfolding stage_of
  directions_led falls zero g = omega (arith, count_short (is_on start) (length start))
  directions_led falls (suc i) g =
      omega (
        arith,
        (pass_adds z matrix n (stage_of z matrix n start source i)).drawn,
        falls i g,
        directions_led falls i (λ j l. g j (omega arith)),
      )

  -- every pass of a job, a discarded one too, starts from two nonzeros or more
  pub leads_passes : Falls z matrix n start source → (rule : Rule) → rule_fault rule ≡ 0
      → Leads z matrix n start source (passes_to z matrix n start source rule (stop_of z matrix n start source rule))
  leads_passes falls rule accepted = go (rests z matrix n start source rule stop) refl
    where
      stop : ℕ
      stop = stop_of z matrix n start source rule

      before : Leads z matrix n start source stop
      before = leads z matrix n start source falls rule accepted

      there : rests z matrix n start source rule stop ≡ false → Dec (1 < entries_at z matrix n start source stop) → 2 ≤ entries_at z matrix n start source stop
      there e (yes h) = h
      there e (no h) = never (rests z matrix n start source rule stop) (few_rests z matrix n start source rule stop accepted (omega arith)) e

      last : 2 ≤ entries_at z matrix n start source stop → (j : ℕ) → j < suc stop → Dec (j < stop) → 2 ≤ entries_at z matrix n start source j
      last h j l (yes g) = before j g
      last h j l (no g) = let e : j ≡ stop = omega arith in rw e h

      go : (t : Bool) → rests z matrix n start source rule stop ≡ t → Leads z matrix n start source (pick t stop (suc stop))
      go true e = before
      go false e = λ j l. last (there e (dec_lt 1 (entries_at z matrix n start source stop))) j l (dec_lt j stop)

-- two more colourings can be counted at every stage
pub countable_at : {matrix : ℕ → ℕ → Float} {n : ℕ} {start : List Float} {source : SplitMix64} {i : ℕ} {tally : Counted} → length start ≤ 256 → i ≤ 8
    → Tallied matrix n start source i tally → Countable tally 2
countable_at {matrix} {n} {start} {source} {i} few near t =
    record {
      directions = omega (arith, t.directions, directions_at plus_zero matrix n start source i, mul-le-mul few near);
      sweeps = omega (arith, t.sweeps, sweeps_at plus_zero matrix n start source i);
    }

-- a whole job, the stop's discarded pass included
module _ (matrix : ℕ → ℕ → Float) (n : ℕ) (start : List Float) (source : SplitMix64) (falls : Falls plus_zero matrix n start source) (few : length start ≤ 256)
    (rule : Rule) (accepted : rule_fault rule ≡ 0) where
  abbrev passes : ℕ
  passes = passes_to plus_zero matrix n start source rule (stop_of plus_zero matrix n start source rule)

  -- at most eight passes
  pub passes_few : passes ≤ 8
  passes_few = nine_stages matrix n start source falls few passes (leads_passes plus_zero matrix n start source falls rule accepted)

  -- at most eight directions for each weight
  pub job_directions : (stage_of plus_zero matrix n start source passes).directions ≤ 8 * length start
  job_directions =
      omega (arith, directions_led plus_zero matrix n start source falls passes (leads_passes plus_zero matrix n start source falls rule accepted))

  -- and at most 1600 sweeps
  pub job_sweeps : (stage_of plus_zero matrix n start source passes).sweeps ≤ 1600
  job_sweeps = omega (arith, sweeps_at plus_zero matrix n start source passes, passes_few)
