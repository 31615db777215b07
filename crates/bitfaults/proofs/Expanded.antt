-- Thinning from bits is thinning from the doubles that they stand for: where the bytes are as many as m and n say and no spare bit is set, it is refused by
-- the same number, and gives the same answer, output and scratch.
use borrow.Author.Tests.{eqb-true, eq-eqb, not-false}
use Prim.Native.Nat.{ℕ, ◌*◌, ◌≤◌}
use mathlib.Core.Path.{◌≡◌, refl, sym, ap, ap₂, ◌∙◌}
use mathlib.Core.Bool.{Bool, true, false, not, ◌||◌}
use mathlib.Core.List.{List}
use native.Mathlib.Omega.{arith}
use lib.Dec.{eqb}
use lib.ListN.{length}
use lib.Ieee.{Float}
use Rattle.seq.specs.Choice.{pick, or_else}
use Rattle.seq.proofs.Choosing.{neither}
use Rattle.ieee.specs.Constants.{one}
use Rattle.limits.specs.Limits.{too_large}
use Rattle.limits.specs.Votes.{bytes_of, spare_clear, spare_fault, expanded}
use Rattle.limits.proofs.Sizes.{small}
use Rattle.limits.proofs.ReadsAs.{length-expanded}
use Rattle.rules.specs.Rules.{rule_fault}
use Rattle.rules.specs.declared.Rule.{Rule}
use Rattle.draw.specs.declared.SplitMix64.{SplitMix64}
use Rattle.faults.specs.Faults.{edition_fault, room_fault, size_fault, weight_fault, value_fault, job_fault}
use Rattle.refusal.proofs.Reasons.{no_fault}
use Rattle.faults.proofs.AsDoubles.{votes_bounded}
use Rattle.answers.specs.Answers.{Thinned, answer_of, refusal}
use Rattle.answers.specs.declared.Answer.{Answer}
use Rattle.bitfaults.specs.Refusals.{bytes_fault, votes_fault}
use Rattle.bitfaults.specs.Ballots.{BitsThinned}

module _ (bits : List ℕ) (m n : ℕ) where
  module _ (whole : length bits ≡ m * bytes_of n) (w : List Float) (output numbers indices : ℕ) where
    sizes_agree : bytes_fault m n (length bits) (length w) output numbers indices
        ≡ size_fault m n (length (expanded bits m n)) (length w) output numbers indices
    unfolding bytes_fault size_fault
    sizes_agree = rw (eq-eqb (length bits) (m * bytes_of n) whole, eq-eqb (length (expanded bits m n)) (m * n) (length-expanded bits m n)) refl

    values_agree : spare_clear bits m n ≡ true → or_else (spare_fault bits m n) (weight_fault w) ≡ value_fault (expanded bits m n) w
    unfolding value_fault
    values_agree clear = rw (clear, votes_bounded bits m n) refl

    -- both calls have one number
    pub faults_agree : spare_clear bits m n ≡ true → (rule : Rule) (edition : ℕ)
        → votes_fault rule edition bits m n w output numbers indices ≡ job_fault rule edition (expanded bits m n) m n w output numbers indices
    unfolding votes_fault job_fault
    faults_agree clear rule edition = ap₂ (λ (a b : ℕ). or_else (rule_fault rule) (or_else (edition_fault edition) (or_else a b))) sizes_agree (values_agree clear)

-- what a job from bits has that is not refused
pub record Taken (bits : List ℕ) (m n : ℕ) : Type 0 where
  pub whole : length bits ≡ m * bytes_of n
  pub clear : spare_clear bits m n ≡ true

-- the sizes of one whose sizes are not refused
pub record Bytes (m n bytes : ℕ) : Type 0 where
  pub few : m ≤ 256
  pub short : n ≤ 4096
  pub whole : bytes ≡ m * bytes_of n

pub bytes_fine : (m n bytes weights output numbers indices : ℕ) → bytes_fault m n bytes weights output numbers indices ≡ 0 → Bytes m n bytes
unfolding bytes_fault
bytes_fine m n bytes weights output numbers indices h =
    let b = go (too_large m n) (not (eqb bytes (m * bytes_of n)) || (not (eqb weights m) || not (eqb output m))) h in
    let s = small m n b.0 in
    record {
      few = s.columns;
      short = s.rows;
      whole = eqb-true bytes (m * bytes_of n) (not-false (eqb bytes (m * bytes_of n)) (neither (not (eqb bytes (m * bytes_of n))) _ b.1).0);
    }
  where
    go : (s t : Bool) → pick s 3 (pick t 4 (room_fault m n numbers indices)) ≡ 0 → (s ≡ false) × (t ≡ false)
    go true t e = absurd (omega arith)
    go false true e = absurd (omega arith)
    go false false e = (refl, refl)

clear_spare : (t : Bool) → ◌≡◌ {A = ℕ} (pick t 0 15) 0 → t ≡ true
clear_spare true e = refl
clear_spare false e = absurd (omega arith)

pub taken : (rule : Rule) (edition : ℕ) (bits : List ℕ) (m n : ℕ) (w : List Float) (output numbers indices : ℕ)
    → votes_fault rule edition bits m n w output numbers indices ≡ 0 → Taken bits m n
unfolding votes_fault
taken rule edition bits m n w output numbers indices h =
    let sizes : ℕ = bytes_fault m n (length bits) (length w) output numbers indices in
    let rest : ℕ = or_else (spare_fault bits m n) (weight_fault w) in
    let a = no_fault (rule_fault rule) (or_else (edition_fault edition) (or_else sizes rest)) h in
    let b = no_fault (edition_fault edition) (or_else sizes rest) a.1 in
    let c = no_fault sizes rest b.1 in
    let d = no_fault (spare_fault bits m n) (weight_fault w) c.1 in
    record {
      whole = (bytes_fine m n (length bits) (length w) output numbers indices c.0).whole;
      clear = clear_spare (spare_clear bits m n) d.0;
    }

-- and so the job from the doubles is not refused
pub taken_doubles : (rule : Rule) (edition : ℕ) (bits : List ℕ) (m n : ℕ) (w : List Float) (output numbers indices : ℕ)
    → votes_fault rule edition bits m n w output numbers indices ≡ 0 → job_fault rule edition (expanded bits m n) m n w output numbers indices ≡ 0
taken_doubles rule edition bits m n w output numbers indices h =
    let t = taken rule edition bits m n w output numbers indices h in
    sym (faults_agree bits m n t.whole w output numbers indices t.clear rule edition) ∙ h

-- every answer, output and scratch is that of the call on the doubles
pub as_doubles : {rule : Rule} {source : SplitMix64} {bits : List ℕ} {m n : ℕ} {w output numbers : List Float} {indices : List ℕ}
    {r : Answer} {output' numbers' : List Float} {indices' : List ℕ}
    → length bits ≡ m * bytes_of n → spare_clear bits m n ≡ true
    → BitsThinned rule source bits m n w output numbers indices r output' numbers' indices'
    → Thinned rule source (expanded bits m n) m n w output numbers indices r output' numbers' indices'
as_doubles {rule} {source} {bits} {m} {n} {w} {output} {numbers} {indices} whole clear job =
    record {
      answers = job.answers ∙ ap (λ (k : ℕ). pick (eqb k 0) (answer_of (expanded bits m n) n w source rule) (refusal k))
          (faults_agree bits m n whole w (length output) (length numbers) (length indices) clear rule source.edition);
      writes = job.writes;
      floats = job.floats;
      words = job.words;
    }

-- and the other way
pub from_doubles : {rule : Rule} {source : SplitMix64} {bits : List ℕ} {m n : ℕ} {w output numbers : List Float} {indices : List ℕ}
    {r : Answer} {output' numbers' : List Float} {indices' : List ℕ}
    → length bits ≡ m * bytes_of n → spare_clear bits m n ≡ true
    → Thinned rule source (expanded bits m n) m n w output numbers indices r output' numbers' indices'
    → BitsThinned rule source bits m n w output numbers indices r output' numbers' indices'
from_doubles {rule} {source} {bits} {m} {n} {w} {output} {numbers} {indices} whole clear job =
    record {
      answers = job.answers ∙ ap (λ (k : ℕ). pick (eqb k 0) (answer_of (expanded bits m n) n w source rule) (refusal k))
          (sym (faults_agree bits m n whole w (length output) (length numbers) (length indices) clear rule source.edition));
      writes = job.writes;
      floats = job.floats;
      words = job.words;
    }
