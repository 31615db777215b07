-- The answer of a whole sheet with its words: what a job's answer comes to, and the text in the buffer of the program and in the caller's.
use borrow.Author.Tests.{eq-eqb, ne_eqb, eqb-true, le-leb, lt-leb}
use Prim.Native.Nat.{ℕ, ◌+◌, ◌*◌, ◌≤◌, ◌<◌}
use mathlib.Core.Path.{◌≡◌, refl, sym, ap, ◌∙◌}
use mathlib.Core.Bool.{Bool, true, false}
use mathlib.Core.List.{List, ◌++◌, append-nil}
use native.Mathlib.Omega.{arith}
use lib.Dec.{eqb}
use lib.ListN.{length, take, drop}
use lib.Ieee.{Float}
use Rattle.seq.specs.Choice.{pick}
use Rattle.seq.specs.Sums.{plus_zero}
use Rattle.draw.specs.declared.SplitMix64.{SplitMix64}
use Rattle.weights.specs.Weights.{normalized}
use Rattle.rules.specs.declared.Rule.{Rule}
use Rattle.fields.specs.Steps.{WroteOn}
use Rattle.answers.specs.declared.Answer.{Answer}
use Rattle.faults.specs.Faults.{edition_fault, job_fault}
use Rattle.answers.specs.Answers.{refusal, answer_of, returned, Thinned}
use Rattle.keeping.specs.Saved.{Laid}
use Rattle.answering.specs.Answer.{answer_text}
use Rattle.asking.specs.Jobs.{sheet_fault, job_text}
use Rattle.answering.specs.Steps.{Wrote}
use Rattle.answering.proofs.Puts.{front_more}
use Rattle.asking.proofs.Jobs.{sheet_fault_lem, job_wrote}
use Rattle.answering.proofs.Lines.{length_answer}
use Rattle.wordlines.specs.Lines.{words_of}
use Rattle.words.specs.Words.{moved_text}
use Rattle.wordlines.proofs.Listing.{length_words}

-- a job that is refused has no words, and one that is accepted those from the normalized weights to the ones returned
module _ (rule : Rule) (source : SplitMix64) (matrix : List Float) (m n : ℕ) (w : List Float) where
  pub refused_moved : {out : List ℕ} {r : ℕ} {out' : List ℕ} → (sheet_fault rule matrix m n w ≡ 0 → ⊥)
      → Wrote (job_text rule source matrix m n w) out r out' → Wrote (moved_text rule source matrix m n w) out r out'
  refused_moved h e = rw (ne_eqb (sheet_fault rule matrix m n w) 0 h, append-nil (job_text rule source matrix m n w)) e

  pub accepted_moved : {out o : List ℕ} {a r : ℕ} {o' : List ℕ} (after : List Float) → sheet_fault rule matrix m n w ≡ 0
      → after ≡ (returned matrix n w source rule).w → Wrote (job_text rule source matrix m n w) out a o
      → WroteOn (words_of matrix m n (normalized plus_zero w) after) a o r o'
      → a + length (words_of matrix m n (normalized plus_zero w) after) ≤ length out → Wrote (moved_text rule source matrix m n w) out r o'
  accepted_moved after h e p q l =
      let same : words_of matrix m n (normalized plus_zero w) after ≡ words_of matrix m n (normalized plus_zero w) (returned matrix n w source rule).w =
      ap (words_of matrix m n (normalized plus_zero w)) e in
      rw (eq-eqb (sheet_fault rule matrix m n w) 0 h) (front_more p (rw same at q) (rw same at l))

-- the number of an answer is what the job is refused for
number_of : (f : ℕ) (x : Answer) → x.number ≡ 0 → (pick (eqb f 0) x (refusal f)).number ≡ f
number_of f x h = go (eqb f 0) refl
  where
    go : (t : Bool) → eqb f 0 ≡ t → (pick t x (refusal f)).number ≡ f
    go true e = h ∙ sym (eqb-true f 0 e)
    go false e = refl

zero_number : (matrix : List Float) (n : ℕ) (w : List Float) (source : SplitMix64) (rule : Rule) → (answer_of matrix n w source rule).number ≡ 0
unfolding answer_of
zero_number matrix n w source rule = refl

-- the answer of a job ends within its part of the buffer
pub answer_ends : (s : Answer) (w : List Float) {out : List ℕ} {r : ℕ} {out' : List ℕ} → Wrote (answer_text s w) out r out' → length w ≤ 32 → r ≤ 1342
answer_ends s w e h = omega (arith, e.long, length_answer s w h)

-- a job with the sizes and the scratch of a sheet
module _ {rule : Rule} {source : SplitMix64} {matrix : List Float} {m n : ℕ} {w output numbers : List Float} {indices : List ℕ}
    {s : Answer} {output' numbers' : List Float} {indices' : List ℕ} (known : edition_fault source.edition ≡ 0) (columns : m ≤ 32) (rows : n ≤ 64)
    (whole : length matrix ≡ m * n) (given : length w ≡ m) (left : length output ≡ m) (floats : length numbers ≡ 4136) (counts : length indices ≡ 776)
    (t : Thinned rule source matrix m n w output numbers indices s output' numbers' indices') where
  number_is : s.number ≡ sheet_fault rule matrix m n w
  number_is =
      let fault : ℕ = job_fault rule source.edition matrix m n w (length output) (length numbers) (length indices) in
      ap (λ (x : Answer). x.number) t.answers ∙ number_of fault (answer_of matrix n w source rule) (zero_number matrix n w source rule)
      ∙ ap (λ (z : ℕ). job_fault rule source.edition matrix m n w (length output) z (length indices)) floats
      ∙ ap (job_fault rule source.edition matrix m n w (length output) 4136) counts
      ∙ sheet_fault_lem rule source.edition matrix m n w (length output) known columns rows whole given left

  pub job_refused : {out : List ℕ} {r : ℕ} {out' : List ℕ} → (s.number ≡ 0 → ⊥) → Wrote (answer_text s output') out r out'
      → Wrote (moved_text rule source matrix m n w) out r out'
  job_refused {out} {r} {out'} h e =
      refused_moved rule source matrix m n w (λ z. h (number_is ∙ z))
      (job_wrote out r out' known columns rows whole given left floats counts t e)

  pub job_accepted : {out : List ℕ} {a : ℕ} {o : List ℕ} {r : ℕ} {o' : List ℕ} → s.number ≡ 0 → 4094 ≤ length out → length output' ≤ 32
      → Wrote (answer_text s output') out a o → WroteOn (words_of matrix m n (normalized plus_zero w) output') a o r o'
      → Wrote (moved_text rule source matrix m n w) out r o'
  job_accepted {out} {a} {o} z room few e q =
      accepted_moved rule source matrix m n w output' (sym number_is ∙ z) (t.writes ∙ rw (eq-eqb s.number 0 z))
      (job_wrote out a o known columns rows whole given left floats counts t e) q
      (omega (arith, answer_ends s output' e few, length_words matrix m n (normalized plus_zero w) output' rows))

-- a text that does not fit, and one that does
pub does_not_fit : (t answer out : List ℕ) (r : ℕ) (out' : List ℕ) → Wrote t out r out' → length answer < r → Laid t answer 0 answer
does_not_fit t answer out r out' w h =
    let f = lt-leb (length t) (length answer) (omega (arith, w.long)) in
    record { says = rw f; writes = rw f }

pub does_fit : (t answer out : List ℕ) (r : ℕ) (out' ys answer' : List ℕ) → Wrote t out r out' → r ≤ length answer → ys ≡ take r out'
    → answer' ≡ ys ++ drop r answer → Laid t answer r answer'
does_fit t answer out r out' ys answer' w h e g =
    let f = le-leb (length t) (length answer) (omega (arith, w.long)) in
    let l : length t ≡ r = sym w.long in
    record { says = rw (f, l); writes = rw (f, l) (g ∙ ap (λ (s : List ℕ). s ++ drop r answer) (e ∙ w.front)) }
