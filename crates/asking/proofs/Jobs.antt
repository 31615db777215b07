-- What a sheet's job comes to: with the sizes and the scratch that a sheet has, `thin` refuses for the sheet's own faults alone, and its answer and
-- output are those that the text says.
use borrow.Author.Tests.{eq-eqb, le-ltb}
use Prim.Native.Nat.{ℕ, ◌+◌, ◌*◌, ◌≤◌}
use mathlib.Core.Path.{◌≡◌, refl, ap, ◌∙◌}
use mathlib.Core.Bool.{Bool, true, false, ◌||◌}
use mathlib.Core.List.{List}
use native.Mathlib.Nat.{mul-le-mul}
use native.Mathlib.Omega.{arith}
use lib.Dec.{eqb}
use lib.ListN.{length}
use lib.Ieee.{Float}
use Rattle.seq.specs.Choice.{pick, or_else}
use Rattle.limits.specs.Limits.{too_large, scratch_short, numbers_needed, indices_needed}
use Rattle.rules.specs.declared.Rule.{Rule}
use Rattle.answers.specs.declared.Answer.{Answer}
use Rattle.rules.specs.Rules.{rule_fault}
use Rattle.faults.specs.Faults.{edition_fault, size_fault, value_fault, job_fault}
use Rattle.answers.specs.Answers.{refusal, answer_of, returned, Thinned}
use Rattle.answering.specs.Answer.{answer_text}
use Rattle.asking.specs.Jobs.{sheet_fault, job_answer, job_text}
use Rattle.answering.specs.Steps.{Wrote}
use Rattle.draw.specs.declared.SplitMix64.{SplitMix64}

-- a sheet's job is within the limits
pub not_large : (m n : ℕ) → m ≤ 32 → n ≤ 64 → too_large m n ≡ false
not_large m n h g = rw (le-ltb 256 m (omega arith), le-ltb 4096 n (omega arith))

pub scratch_enough : (m n : ℕ) → m ≤ 32 → n ≤ 64 → scratch_short m n 4136 776 ≡ false
scratch_enough m n h g =
    let z : n + 1 ≤ 65 = omega arith in
    let p : m * (n + 1) ≤ 32 * 65 = mul-le-mul h z in
    let q : m * m ≤ 32 * 32 = mul-le-mul h h in
    rw (le-ltb 4136 (numbers_needed m n) (omega arith), le-ltb 776 (indices_needed m n) (omega arith))

size-fault : (m n matrix weights output : ℕ) → m ≤ 32 → n ≤ 64 → matrix ≡ m * n → weights ≡ m → output ≡ m
    → size_fault m n matrix weights output 4136 776 ≡ pick (eqb m 0 || eqb n 0) 5 0
unfolding size_fault
size-fault m n matrix weights output h g a b d =
    rw (not_large m n h g, eq-eqb matrix (m * n) a, eq-eqb weights m b, eq-eqb output m d, scratch_enough m n h g)

pub sheet_fault_lem : (rule : Rule) (edition : ℕ) (matrix : List Float) (m n : ℕ) (w : List Float) (output : ℕ) → edition_fault edition ≡ 0
    → m ≤ 32 → n ≤ 64 → length matrix ≡ m * n → length w ≡ m → output ≡ m → job_fault rule edition matrix m n w output 4136 776 ≡ sheet_fault rule matrix m n w
unfolding job_fault sheet_fault
sheet_fault_lem rule edition matrix m n w output known h g a b d =
    ap (λ (e : ℕ). or_else (rule_fault rule) (or_else e (or_else (size_fault m n (length matrix) (length w) output 4136 776) (value_fault matrix w)))) known
    ∙ ap (λ (s : ℕ). or_else (rule_fault rule) (or_else s (value_fault matrix w))) (size-fault m n (length matrix) (length w) output h g a b d)

-- the text of an answer reads the weights only where they were returned
text_same : (s : Answer) (w x y : List Float) → w ≡ pick (eqb s.number 0) x y → answer_text s w ≡ answer_text s x
unfolding answer_text
text_same s w x y e = go (eqb s.number 0) refl
  where
    go : (t : Bool) → eqb s.number 0 ≡ t → answer_text s w ≡ answer_text s x
    go true h = ap (answer_text s) (e ∙ ap (λ (b : Bool). pick b x y) h)
    go false h = rw (h)

pub job_wrote : {rule : Rule} {source : SplitMix64} {matrix : List Float} {m n : ℕ} {w output numbers : List Float} {indices : List ℕ}
    {s : Answer} {output' numbers' : List Float} {indices' : List ℕ}
    (out : List ℕ) (r : ℕ) (out' : List ℕ) → edition_fault source.edition ≡ 0 → m ≤ 32 → n ≤ 64 → length matrix ≡ m * n → length w ≡ m → length output ≡ m
    → length
    numbers ≡ 4136 → length indices ≡ 776
    → Thinned rule source matrix m n w output numbers indices s output' numbers' indices'
    → Wrote (answer_text s output') out r out' → Wrote (job_text rule source matrix m n w) out r out'
unfolding job_answer
job_wrote {rule} {source} {matrix} {m} {n} {w} {output} {numbers} {indices} {s} {output'} out r out' known h g a b d k l t e =
    let f : job_fault rule source.edition matrix m n w (length output) (length numbers) (length indices) ≡ sheet_fault rule matrix m n w =
    ap (λ (z : ℕ). job_fault rule source.edition matrix m n w (length output) z (length indices)) k
    ∙ ap (job_fault rule source.edition matrix m n w (length output) 4136) l
    ∙ sheet_fault_lem rule source.edition matrix m n w (length output) known h g a b d in
    let p : s ≡ job_answer rule source matrix m n w = t.answers ∙ ap (λ (z : ℕ). pick (eqb z 0) (answer_of matrix n w source rule) (refusal z)) f in
    let q : answer_text s output' ≡ job_text rule source matrix m n w =
    text_same s output' (returned matrix n w source rule).w output t.writes ∙ ap (λ (z : Answer). answer_text z (returned matrix n w source rule).w) p in
    rw q at e
