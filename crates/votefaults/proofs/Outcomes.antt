-- What a call on votes has that is not refused, and what one leaves: refused, or with what thinning the confidences returns, packed.
use Prim.Native.Nat.{ℕ, ◌<◌, ◌≤◌}
use mathlib.Core.Path.{◌≡◌, refl, sym, ap, ◌∙◌}
use mathlib.Core.Bool.{Bool, true, false, ◌&&◌}
use mathlib.Core.List.{List, ◌++◌}
use native.Mathlib.Omega.{arith}
use borrow.Author.Tests.{ne_eqb, eqb-true}
use lib.IntN.{ℤ}
use lib.Dec.{T, eqb}
use lib.ListN.{length, take, drop, length-append}
use lib.Seq.{take_at, length-take-le}
use lib.Ieee.{Float, binary64, fits}
use Rattle.seq.specs.Choice.{pick, or_else}
use Rattle.seq.specs.Sums.{at}
use Rattle.seq.proofs.Choosing.{both}
use Rattle.limits.specs.Limits.{too_large}
use Rattle.draw.specs.declared.SplitMix64.{SplitMix64}
use Rattle.rules.specs.Rules.{rule_fault}
use Rattle.rules.specs.declared.Rule.{Rule}
use Rattle.faults.specs.Faults.{edition_fault, size_fault, value_fault, job_fault}
use Rattle.answers.specs.Answers.{refusal, answer_of, Thinned}
use Rattle.answers.specs.declared.Answer.{Answer}
use Rattle.refusal.proofs.Reasons.{no_fault}
use Rattle.answers.proofs.Accepting.{Sized, sizes-good, output-stage}
use Rattle.halved.specs.Halve.{Halved}
use Rattle.packing.specs.Packed.{packed_columns, packed_weights, Packed}
use Rattle.votefaults.specs.Votes.{all_labels, margins_of, list_fault, call_fault, votes_fault, VotesThinned}
use Rattle.votefaults.proofs.Margins.{answer_same, returned_same}

-- ---- the sizes

module _ (m n confidences labels weights columns kept numbers indices : ℕ) where
  -- without a fault every list has its length
  pub lists_good : list_fault m n confidences labels weights columns kept numbers indices ≡ 0
      → (labels ≡ n) × ((kept ≡ m) × (size_fault m n confidences weights columns numbers indices ≡ 0))
  unfolding list_fault
  lists_good h = go (eqb labels n && eqb kept m) refl (too_large m n) h
    where
      go : (t : Bool) → (eqb labels n && eqb kept m) ≡ t → (u : Bool)
          → pick t (size_fault m n confidences weights columns numbers indices) (pick u 3 4) ≡ 0
          → (labels ≡ n) × ((kept ≡ m) × (size_fault m n confidences weights columns numbers indices ≡ 0))
      go true e u h =
          let b = both (eqb labels n) (eqb kept m) e in
          (eqb-true labels n b.0, (eqb-true kept m b.1, h))
      go false e true h = absurd (let z : ◌≡◌ {A = ℕ} 3 0 = h in omega arith)
      go false e false h = absurd (let z : ◌≡◌ {A = ℕ} 4 0 = h in omega arith)

-- ---- what is tested before the values

-- what a call has that passes
pub record Called (rule : Rule) (edition : ℕ) (labels : List ℤ) (m n confidences weights columns kept numbers indices : ℕ) : Type 0 where
  pub ruled : rule_fault rule ≡ 0
  pub drawn : edition_fault edition ≡ 0
  pub rows : length labels ≡ n
  pub room : kept ≡ m
  pub sized : Sized m n confidences weights columns numbers indices
  pub fine : size_fault m n confidences weights columns numbers indices ≡ 0
  pub good : all_labels labels ≡ true

label_test : (t : Bool) → ◌≡◌ {A = ℕ} (pick t 0 14) 0 → t ≡ true
label_test true h = refl
label_test false h = absurd (omega arith)

pub called : (rule : Rule) (edition : ℕ) (labels : List ℤ) (m n confidences weights columns kept numbers indices : ℕ)
    → call_fault rule edition confidences labels m n weights columns kept numbers indices ≡ 0
    → Called rule edition labels m n confidences weights columns kept numbers indices
unfolding call_fault
called rule edition labels m n confidences weights columns kept numbers indices h =
    let a = no_fault (rule_fault rule) _ h in
    let d = no_fault (edition_fault edition) _ a.1 in
    let b = no_fault (list_fault m n confidences (length labels) weights columns kept numbers indices) _ d.1 in
    let l = lists_good m n confidences (length labels) weights columns kept numbers indices b.0 in
    record {
      ruled = a.0;
      drawn = d.0;
      rows = l.0;
      room = l.1.0;
      sized = sizes-good m n confidences weights columns numbers indices l.1.1;
      fine = l.1.1;
      good = label_test (all_labels labels) b.1;
    }

-- ---- what is left

module _ (rule : Rule) (source : SplitMix64) (confidences : List Float) (labels : List ℤ) (m n : ℕ) (w : List Float) (columns : List ℕ)
    (kept numbers : List Float) (indices : List ℕ) where
  abbrev fault : ℕ
  fault = votes_fault rule source.edition confidences labels m n w (length columns) (length kept) (length numbers) (length indices)

  -- refused before the values
  pub votes_refused : (k : ℕ) (r : Answer)
      → k ≡ call_fault rule source.edition (length confidences) labels m n (length w) (length columns) (length kept) (length numbers) (length indices)
      → (k ≡ 0 → ⊥)
      → r ≡ refusal k → VotesThinned rule source confidences labels m n w columns kept numbers indices r columns kept numbers indices
  unfolding votes_fault
  votes_refused k r e h a =
      let z : eqb k 0 ≡ false = ne_eqb k 0 h in
      record {
        answers = rw (← e, z, z) a;
        numbered = sym (rw (a, z));
        weighed = sym (rw (a, z));
        floats = sym (rw (a, z));
        words = sym (rw (a, z));
      }

  module _ (none : call_fault rule source.edition (length confidences) labels m n (length w) (length columns) (length kept) (length numbers)
      (length indices) ≡ 0)
      (held : (k : ℕ) → k < length confidences → T (fits binary64 (at confidences k)))
      {output : List Float} (room : length output ≡ m)
      {r : Answer} {output' numbers' : List Float} {indices' : List ℕ}
      (job : Thinned rule source confidences m n w output numbers indices r output' numbers' indices') where
    passed : Called rule source.edition labels m n (length confidences) (length w) (length columns) (length kept) (length numbers) (length indices)
    passed = called rule source.edition labels m n (length confidences) (length w) (length columns) (length kept) (length numbers) (length indices) none

    -- the number of the call is that of the job
    fault_same : job_fault rule source.edition confidences m n w (length output) (length numbers) (length indices) ≡ fault
    unfolding job_fault votes_fault
    fault_same =
        rw (passed.ruled, passed.drawn, none)
        (ap (λ (k : ℕ). or_else (size_fault m n (length confidences) (length w) k (length numbers) (length indices)) (value_fault confidences w))
        (room ∙ sym passed.sized.left)
        ∙ ap (λ (k : ℕ). or_else k (value_fault confidences w)) passed.fine)

    answer_is : r ≡ pick (eqb fault 0) (answer_of (margins_of labels n confidences) n w source rule) (refusal fault)
    answer_is =
        job.answers
        ∙ ap (λ (k : ℕ). pick (eqb k 0) (answer_of confidences n w source rule) (refusal k)) fault_same
        ∙ ap (λ (a : Answer). pick (eqb fault 0) a (refusal fault))
        (sym (answer_same labels n confidences passed.good passed.rows passed.sized.rows held w source rule))

    -- refused for a value
    pub values_refused : (r.number ≡ 0 → ⊥) → VotesThinned rule source confidences labels m n w columns kept numbers indices r columns kept numbers' indices'
    values_refused h =
        let z : eqb r.number 0 ≡ false = ne_eqb r.number 0 h in
        record { answers = answer_is; numbered = sym (rw z); weighed = sym (rw z); floats = job.floats; words = job.words }

    -- accepted, and packed
    pub votes_packed : r.number ≡ 0 → {columns' : List ℕ} {kept' : List Float} → Packed output' columns' kept'
        → VotesThinned rule source confidences labels m n w columns kept numbers indices r columns' kept' numbers' indices'
    votes_packed h p =
        let e = output-stage job h
        ∙ sym (ap (λ (s : Halved). s.w) (returned_same labels n confidences passed.good passed.rows passed.sized.rows held w source rule)) in
        record {
          answers = answer_is;
          numbered = p.numbers ∙ ap packed_columns e ∙ sym (rw h);
          weighed = p.weights ∙ ap packed_weights e ∙ sym (rw h);
          floats = job.floats;
          words = job.words;
        }

-- ---- the local output: its front is lent, comes back, and is lent again

module _ (m : ℕ) (array output' : List Float) (few : m ≤ length array) (e : length output' ≡ length (take m array)) where
  pub front_again : take m (output' ++ drop m array) ≡ output'
  front_again = take_at output' (drop m array) m (e ∙ length-take-le m array few)

  pub front_room : m ≤ length (output' ++ drop m array)
  front_room = let l : length output' ≡ m = e ∙ length-take-le m array few in omega (arith, length-append output' (drop m array))
