-- C9: of a support of 100 with target 99 at most 49 remain. The first pass keeps 33 and leaves at most a quarter of the other 67, and the job stops there.
use Prim.Native.Nat.{ℕ, ◌≤◌}
use mathlib.Core.Path.{◌≡◌, ap}
use mathlib.Core.Bool.{true, false}
use mathlib.Core.List.{List}
use native.Mathlib.Omega.{arith}
use borrow.Author.Tests.{le-leb}
use lib.ListN.{length}
use lib.Ieee.{Float, binary64}
use Rattle.seq.specs.Sums.{plus_zero, at}
use Rattle.limits.specs.Matrix.{columns_of}
use Rattle.ieee.proofs.Normalised.{Normal}
use Rattle.weights.specs.Weights.{nonzeros, normalized}
use Rattle.passed.proofs.Fewer.{sum-sound}
use Rattle.passed.proofs.Quarter.{pass_at_most}
use Rattle.stages.specs.Stages.{stage_of}
use Rattle.stages.specs.Stopping.{entries_at, stops}
use Rattle.answers.specs.Answers.{Thinned}
use Rattle.answers.specs.declared.Answer.{Answer}
use Rattle.rules.specs.declared.Rule.TheVariants.{Target}
use Rattle.stages.proofs.Halting.{FirstStop}
use Rattle.answers.proofs.Accepting.{accepted, number_none}
use Rattle.demand.proofs.DemandThree.{Doubles, start_normal, start_few}
use Rattle.demand.proofs.Settled.{settled}
use Rattle.draw.specs.declared.SplitMix64.{SplitMix64}

module _ (matrix : ℕ → ℕ → Float) (n : ℕ) (start : List Float) (source : SplitMix64)
    (normal : Normal binary64 (length start) (at start)) (short : length start ≤ 256) (many : nonzeros start ≡ 100) where
  before : entries_at plus_zero matrix n start source 0 ≡ 100
  unfolding stage_of
  before = many

  after : entries_at plus_zero matrix n start source 1 ≤ 49
  unfolding stage_of
  after =
      let first = stage_of plus_zero matrix n start source 0 in
      omega (arith, pass_at_most plus_zero matrix n first (omega arith) (sum-sound matrix n first (omega arith) normal short), many)

  goes_on : stops plus_zero matrix n start source (Target 99) 0 ≡ false
  goes_on = rw before

  ends : stops plus_zero matrix n start source (Target 99) 1 ≡ true
  ends = rw (le-leb (entries_at plus_zero matrix n start source 1) 99 (omega (arith, after)))

  first_pass : FirstStop plus_zero matrix n start source (Target 99) 1
  first_pass = record { there = ends; before = λ i l. let e : i ≡ 0 = omega arith in rw e goes_on }

pub at-most_49 : {source : SplitMix64} {matrix : List Float} {m n : ℕ} {w output numbers : List Float} {indices : List ℕ}
    {r : Answer} {output' numbers' : List Float} {indices' : List ℕ}
    → Thinned (Target 99) source matrix m n w output numbers indices r output' numbers' indices' → Doubles w → r.number ≡ 0
    → nonzeros (normalized plus_zero w) ≡ 100
    → (r.stage ≡ 1) × (r.nonzeros ≤ 49)
at-most_49 {source} {matrix} {m} {n} {w} {output} {numbers} {indices} {r} job doubles zero many =
    let f = number_none job zero in
    let a = accepted (Target 99) source.edition matrix m n w (length output) (length numbers) (length indices) f in
    let normal = start_normal doubles a in
    let short = start_few doubles a in
    let s = (settled job doubles f 1 (first_pass (columns_of matrix n) n (normalized plus_zero w) source normal short many)).0 in
    (ap (λ (z : Answer). z.stage) s, rw s (after (columns_of matrix n) n (normalized plus_zero w) source normal short many))
