-- What an accepted job has: an answer's number is 0 exactly where no fault was found, and then sizes, values and rule are as asked for.
use Prim.Native.Nat.{ℕ, zero, suc, ◌*◌, ◌≤◌, ◌<◌}
use mathlib.Core.Path.{◌≡◌, refl, sym, ap, ◌∙◌}
use mathlib.Core.Bool.{Bool, true, false, not, ◌||◌}
use mathlib.Core.List.{List}
use native.Mathlib.Omega.{arith}
use lib.Dec.{T, eqb, ltb, eqb-suc-zero}
use lib.ListN.{length}
use lib.Ieee.{Float}
use lib.Ieee.Scale.{finite}
use borrow.Author.Tests.{eqb-true, ltb-false, not-false}
use Rattle.seq.specs.Choice.{pick, or_else}
use Rattle.seq.specs.Sums.{plus_zero, at}
use Rattle.limits.specs.Limits.{too_large, scratch_short, numbers_needed, indices_needed, bounded}
use Rattle.seq.specs.Keep.{all_to}
use Rattle.ieee.specs.Constants.{one}
use Rattle.weights.specs.Weights.{normalized, l1_of, sound}
use Rattle.limits.specs.Matrix.{columns_of}
use Rattle.answers.specs.Answers.{refusal, answer_at, answer_of, stop_for, returned, Thinned}
use Rattle.rules.specs.Rules.{rule_fault}
use Rattle.faults.specs.Faults.{edition_fault, size_fault, weight_fault, value_fault, job_fault}
use Rattle.answers.specs.declared.Answer.{Answer}
use Rattle.rules.specs.declared.Rule.{Rule}
use Rattle.seq.proofs.Every.{every_at}
use Rattle.seq.proofs.Choosing.{neither, never, shown}
use Rattle.draw.specs.declared.SplitMix64.{SplitMix64}
use Rattle.refusal.proofs.Reasons.{no_fault}

-- a refusal's number is not 0
pub answered : (fault : ℕ) (a : Answer) → (pick (eqb fault 0) a (refusal fault)).number ≡ 0 → fault ≡ 0
answered zero a h = refl
answered (suc fault) a h = absurd (let g : suc fault ≡ 0 = rw (eqb-suc-zero fault) at h in omega arith)

module _ {rule : Rule} {source : SplitMix64} {matrix : List Float} {m n : ℕ} {w output numbers : List Float} {indices : List ℕ}
    {r : Answer} {output' numbers' : List Float} {indices' : List ℕ}
    (job : Thinned rule source matrix m n w output numbers indices r output' numbers' indices') where
  -- number 0 is given only where there is no fault
  pub number_none : r.number ≡ 0 → job_fault rule source.edition matrix m n w (length output) (length numbers) (length indices) ≡ 0
  number_none h =
      answered (job_fault rule source.edition matrix m n w (length output) (length numbers) (length indices)) (answer_of matrix n w source rule)
      (sym (ap (λ (x : Answer). x.number) job.answers) ∙ h)

  -- and wherever there is none, with the stage
  pub answer_there : job_fault rule source.edition matrix m n w (length output) (length numbers) (length indices) ≡ 0 → r ≡ answer_of matrix n w source rule
  answer_there f = job.answers ∙ ap (λ (x : ℕ). pick (eqb x 0) (answer_of matrix n w source rule) (refusal x)) f

  pub number_there : job_fault rule source.edition matrix m n w (length output) (length numbers) (length indices) ≡ 0 → r.number ≡ 0
  unfolding answer_of
  number_there f = rw (answer_there f)

  -- the answer and the output then
  pub answer_stage : job_fault rule source.edition matrix m n w (length output) (length numbers) (length indices) ≡ 0
      → r ≡ answer_at (columns_of matrix n) n (normalized plus_zero w) source rule (stop_for matrix n w source rule)
  unfolding answer_of
  answer_stage f = answer_there f

  pub output-stage : r.number ≡ 0 → output' ≡ (returned matrix n w source rule).w
  output-stage h = job.writes ∙ rw h

-- the values of an accepted job
pub record Valued (matrix w : List Float) : Type 0 where
  pub entries : bounded one matrix ≡ true
  pub ends : (j : ℕ) → j < length w → T (finite (at w j))
  pub total : sound (l1_of plus_zero w) ≡ true

pub values_good : (matrix w : List Float) → value_fault matrix w ≡ 0 → Valued matrix w
unfolding value_fault
values_good matrix w h =
    let a = go (bounded one matrix) (all_to (λ j. finite (at w j)) (length w)) (sound (l1_of plus_zero w)) h in
    record { entries = a.0; ends = λ j l. shown (finite (at w j)) (every_at (λ j. finite (at w j)) (length w) j a.1.0 l); total = a.1.1 }
  where
    go : (a b c : Bool) → ◌≡◌ {A = ℕ} (pick a (pick b (pick c 0 9) 8) 7) 0 → (a ≡ true) × ((b ≡ true) × (c ≡ true))
    go true true true h = (refl, (refl, refl))
    go true true false h = absurd (omega arith)
    go true false c h = absurd (omega arith)
    go false b c h = absurd (omega arith)

-- its sizes
pub record Sized (m n matrix weights output numbers indices : ℕ) : Type 0 where
  pub few : m ≤ 256
  pub short : n ≤ 4096
  pub whole : matrix ≡ m * n
  pub given : weights ≡ m
  pub left : output ≡ m
  pub columns : 0 < m
  pub rows : 0 < n
  pub floats : numbers_needed m n ≤ numbers
  pub words : indices_needed m n ≤ indices

positive : (m : ℕ) → eqb m 0 ≡ false → 0 < m
positive zero h = never true refl h
positive (suc m) h = omega arith

pub sizes-good : (m n matrix weights output numbers indices : ℕ) → size_fault m n matrix weights output numbers indices ≡ 0 → Sized
    m n matrix weights output numbers indices
unfolding size_fault
sizes-good m n matrix weights output numbers indices h =
    let a = go (too_large m n) (not (eqb matrix (m * n)) || (not (eqb weights m) || not (eqb output m))) (eqb m 0 || eqb n 0)
    (scratch_short m n numbers indices) h in
    let b = neither (ltb 256 m) (ltb 4096 n) a.0 in
    let c = neither (not (eqb matrix (m * n))) (not (eqb weights m) || not (eqb output m)) a.1.0 in
    let d = neither (not (eqb weights m)) (not (eqb output m)) c.1 in
    let e = neither (eqb m 0) (eqb n 0) a.1.1.0 in
    let f = neither (ltb numbers (numbers_needed m n)) (ltb indices (indices_needed m n)) a.1.1.1 in
    record {
      few = ltb-false 256 m b.0;
      short = ltb-false 4096 n b.1;
      whole = eqb-true matrix (m * n) (not-false (eqb matrix (m * n)) c.0);
      given = eqb-true weights m (not-false (eqb weights m) d.0);
      left = eqb-true output m (not-false (eqb output m) d.1);
      columns = positive m e.0;
      rows = positive n e.1;
      floats = ltb-false numbers (numbers_needed m n) f.0;
      words = ltb-false indices (indices_needed m n) f.1;
    }
  where
    go : (a b c d : Bool) → ◌≡◌ {A = ℕ} (pick a 3 (pick b 4 (pick c 5 (pick d 6 0)))) 0 → (a ≡ false) × ((b ≡ false) × ((c ≡ false) × (d ≡ false)))
    go true b c d h = absurd (omega arith)
    go false true c d h = absurd (omega arith)
    go false false true d h = absurd (omega arith)
    go false false false true h = absurd (omega arith)
    go false false false false h = (refl, (refl, (refl, refl)))

-- all of it
pub record Accepted (rule : Rule) (matrix : List Float) (m n : ℕ) (w : List Float) (output numbers indices : ℕ) : Type 0 where
  pub ruled : rule_fault rule ≡ 0
  pub sized : Sized m n (length matrix) (length w) output numbers indices
  pub valued : Valued matrix w

pub accepted : (rule : Rule) (edition : ℕ) (matrix : List Float) (m n : ℕ) (w : List Float) (output numbers indices : ℕ)
    → job_fault rule edition matrix m n w output numbers indices ≡ 0 → Accepted rule matrix m n w output numbers indices
unfolding job_fault
accepted rule edition matrix m n w output numbers indices h =
    let sizes : ℕ = size_fault m n (length matrix) (length w) output numbers indices in
    let a = no_fault (rule_fault rule) (or_else (edition_fault edition) (or_else sizes (value_fault matrix w))) h in
    let b = no_fault (edition_fault edition) (or_else sizes (value_fault matrix w)) a.1 in
    let c = no_fault sizes (value_fault matrix w) b.1 in
    record { ruled = a.0; sized = sizes-good m n (length matrix) (length w) output numbers indices c.0; valued = values_good matrix w c.1 }

-- and its values are without a fault
pub values_fine : (rule : Rule) (edition : ℕ) (matrix : List Float) (m n : ℕ) (w : List Float) (output numbers indices : ℕ)
    → job_fault rule edition matrix m n w output numbers indices ≡ 0 → value_fault matrix w ≡ 0
unfolding job_fault
values_fine rule edition matrix m n w output numbers indices h =
    let sizes : ℕ = size_fault m n (length matrix) (length w) output numbers indices in
    let a = no_fault (rule_fault rule) (or_else (edition_fault edition) (or_else sizes (value_fault matrix w))) h in
    (no_fault sizes (value_fault matrix w) (no_fault (edition_fault edition) (or_else sizes (value_fault matrix w)) a.1).1).1

-- and are without one on any other matrix whose entries lie in [-1, 1]
pub values_on : (matrix other w : List Float) → bounded one other ≡ true → value_fault matrix w ≡ 0 → value_fault other w ≡ 0
unfolding value_fault
values_on matrix other w small h = rw small (go (bounded one matrix) h)
  where
    go : (t : Bool) → pick t (weight_fault w) 7 ≡ 0 → weight_fault w ≡ 0
    go true e = e
    go false e = absurd (omega arith)
