-- Demand 3: of two accepted jobs on one matrix, weights, seed and edition, of one kind, the second allowing at least as much, the second's
-- answer is the same or a later stage of the one sequence; its nonzero entries stand among the first's with the same signs; without a cap
-- its change is within the allowance, and with one the cap is kept.
use Rattle.std.specs.Prelude.{None, Some}
use Prim.Native.Nat.{ℕ, ◌≤◌}
use mathlib.Core.Path.{◌≡◌, ap}
use mathlib.Core.Bool.{true}
use mathlib.Core.List.{List}
use native.Mathlib.Omega.{arith}
use lib.Dec.{T}
use lib.ListN.{length}
use lib.Ieee.{Float, binary64, fits}
use Rattle.seq.specs.Sums.{plus_zero, at}
use Rattle.limits.specs.Matrix.{columns_of}
use Rattle.ieee.proofs.Normalised.{Normal}
use Rattle.weights.specs.Weights.{normalized}
use Rattle.stages.specs.Stopping.{stop_of}
use Rattle.rules.specs.Rules.{rule_fault}
use Rattle.answers.specs.Answers.{answer_at, stop_for, Thinned}
use Rattle.demand.specs.Demand.{allows, keeps, Later}
use Rattle.answers.specs.declared.Answer.{Answer}
use Rattle.rules.specs.declared.Rule.{Rule}
use Rattle.rules.specs.declared.Rule.TheVariants.{Target, Within}
use Rattle.stages.proofs.Halting.{stop_is_first}
use Rattle.stages.proofs.Lengths.{length-normalized}
use Rattle.stages.proofs.Passing.{falling, signed-stage, normal_start}
use Rattle.demand.proofs.Monotone.{Double, no_sooner, among_stops, target_kept, cap_kept, allowance_kept}
use Rattle.answers.proofs.Accepting.{Accepted, accepted, number_none, answer_stage, output-stage}
use Rattle.draw.specs.declared.SplitMix64.{SplitMix64}

-- every weight is a double
abbrev pub Doubles : List Float → Type 0
Doubles w = (j : ℕ) → T (fits binary64 (at w j))

-- what the rule asks for, of the stage at which it stops
module _ (matrix : ℕ → ℕ → Float) (n : ℕ) (start : List Float) (source : SplitMix64) (normal : Normal binary64 (length start) (at start))
    (few : length start ≤ 256) where
  pub kept_there : (rule : Rule) → rule_fault rule ≡ 0
      → keeps rule (answer_at matrix n start source rule (stop_of plus_zero matrix n start source rule)) ≡ true
  kept_there (Target t) f = target_kept plus_zero matrix n start source (falling matrix n start source normal few) t f
  kept_there (Within a None) f = allowance_kept plus_zero matrix n start source (falling matrix n start source normal few) a f (λ j l. (normal.ends j l).ends)
  kept_there (Within a (Some c)) f = cap_kept plus_zero matrix n start source (falling matrix n start source normal few) a c f

-- the weights that an accepted job starts from
module _ {rule : Rule} {matrix : List Float} {m n : ℕ} {w : List Float} {output numbers indices : ℕ} (doubles : Doubles w)
    (job : Accepted rule matrix m n w output numbers indices) where
  pub start_normal : Normal binary64 (length (normalized plus_zero w)) (at (normalized plus_zero w))
  start_normal = normal_start w doubles job.valued.ends job.valued.total

  pub start_few : length (normalized plus_zero w) ≤ 256
  start_few = rw (length-normalized plus_zero w) (omega (arith, job.sized.given, job.sized.few))

pub demand_three : {first second : Rule} {source : SplitMix64} {matrix : List Float} {m n : ℕ} {w : List Float}
    {output numbers : List Float} {indices : List ℕ} {r : Answer} {output' numbers' : List Float} {indices' : List ℕ}
    {other others : List Float} {places : List ℕ} {s : Answer} {other' others' : List Float} {places' : List ℕ}
    → Thinned first source matrix m n w output numbers indices r output' numbers' indices'
    → Thinned second source matrix m n w other others places s other' others' places'
    → Double first → Double second → Doubles w → allows first second ≡ true → r.number ≡ 0 → s.number ≡ 0
    → Later matrix n w source second r s output' other'
demand_three {first} {second} {source} {matrix} {m} {n} {w} {output} {numbers} {indices} {r} {output'} {numbers'} {indices'} {other} {others} {places} {s}
    p q A B doubles more zero_first zero-second =
    let start : List Float = normalized plus_zero w in
    let c : ℕ → ℕ → Float = columns_of matrix n in
    let a = number_none p zero_first in
    let b = number_none q zero-second in
    let x = accepted first source.edition matrix m n w (length output) (length numbers) (length indices) a in
    let y = accepted second source.edition matrix m n w (length other) (length others) (length places) b in
    let normal = start_normal doubles x in
    let few = start_few doubles x in
    let falls = falling c n start source normal few in
    let R = answer_stage p a in
    let S = answer_stage q b in
    let i : r.stage ≡ stop_for matrix n w source first = ap (λ (z : Answer). z.stage) R in
    let j : s.stage ≡ stop_for matrix n w source second = ap (λ (z : Answer). z.stage) S in
    let O = output-stage p zero_first in
    let Q = output-stage q zero-second in
    let k : stop_for matrix n w source first ≤ stop_for matrix n w source second =
    no_sooner plus_zero c n start source first second (stop_for matrix n w source first) (stop_for matrix n w source second) A B more
    (stop_is_first plus_zero c n start source falls first x.ruled) (stop_is_first plus_zero c n start source falls second y.ruled) in
    record {
      later = rw (i, j) k;
      one = rw i O;
      other = rw j Q;
      among = rw (O, Q) (among_stops plus_zero c n start source falls (signed-stage c n start source normal few)
          second (stop_for matrix n w source first) y.ruled k);
      kept = rw S (kept_there c n start source normal few second y.ruled);
    }
