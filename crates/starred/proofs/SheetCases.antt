-- The sheets of C1 to C3, from their bytes to the bytes of their answers: the text is that of a sheet of the form, which says the job of the case,
-- and the answer's text is computed from what the case claims of the job.
use Prim.Native.Nat.{ℕ, zero, suc, ◌*◌, ◌/◌, ◌%◌, ◌^◌, ◌<◌}
use mathlib.Core.Path.{◌≡◌, refl, ap, ◌∙◌}
use mathlib.Core.Bool.{true}
use mathlib.Core.List.{List}
use lib.Dec.{eqb, lit≤, lit<}
use lib.Ieee.{Float, binary64, of_bits}
use Rattle.seq.specs.Choice.{pick}
use Rattle.seq.specs.Lists.{tabulate, repeated}
use Rattle.seq.specs.Sums.{plus_zero}
use Rattle.draw.specs.SplitMix.{seeded}
use Rattle.draw.specs.declared.SplitMix64.{SplitMix64}
use Rattle.form.specs.Sheets.{Sheet, Wish, Fits, Says, rule_of, wish_fits}
use Rattle.faults.specs.Faults.{job_fault}
use Rattle.answers.specs.Answers.{refusal, answer_of, returned}
use Rattle.answers.specs.declared.Answer.{Answer}
use Rattle.asking.specs.Jobs.{sheet_fault, job_answer, job_text}
use Rattle.answering.specs.Answer.{ok_line, answer_text}
use Rattle.sheet.specs.Answer.{sheet_answer}
use Rattle.rules.specs.declared.Rule.{Rule}
use Rattle.starred.specs.Cases.{matrix, without_counts, by, called, Room}

pub room : Room 2 2 (repeated plus_zero 2) (repeated plus_zero 100) (repeated 0 100)
unfolding tabulate
room = record { places = refl; floats = lit≤ tt; words = lit≤ tt }

-- what a case claims of every call it claims of the definitions
module _ (weights : List Float) (rule : Rule) (answer : Answer) (v : List Float)
    (claim : called weights (by rule) (λ output r output'. (without_counts r ≡ answer) × (output' ≡ v)))
    (fault : job_fault rule 1 matrix 2 2 weights 2 100 100 ≡ 0) (good : answer.number ≡ 0) (seed : ℕ) where
  -- a sheet that names no edition means the first
  abbrev source : SplitMix64
  source = seeded seed 1

  abbrev given : Answer
  given = pick (eqb (job_fault rule 1 matrix 2 2 weights 2 100 100) 0) (answer_of matrix 2 weights source rule)
      (refusal (job_fault rule 1 matrix 2 2 weights 2 100 100))

  told : (without_counts given ≡ answer) × (pick (eqb given.number 0) (returned matrix 2 weights source rule).w (repeated plus_zero 2) ≡ v)
  unfolding tabulate
  told =
      claim rule seed 1 (repeated plus_zero 2) (repeated plus_zero 100) (repeated 0 100) given
      (pick (eqb given.number 0) (returned matrix 2 weights source rule).w (repeated plus_zero 2))
      (pick (eqb given.number 0) (repeated plus_zero 100) (repeated plus_zero 100))
      (pick (eqb given.number 0) (repeated 0 100) (repeated 0 100)) refl refl room
      (record { answers = refl; writes = refl; floats = refl; words = refl })

  pub answered_so : without_counts (answer_of matrix 2 weights source rule) ≡ answer
  answered_so = rw fault at told.0

  pub returned_so : (returned matrix 2 weights source rule).w ≡ v
  returned_so = rw (ap (λ (x : Answer). x.number) told.0 ∙ good) at told.1

-- ---- the sheet of a case

abbrev pub weight_of : ℕ → ℕ
weight_of zero = 0x3FF0_0000_0000_0000
weight_of (suc j) = 0x4008_0000_0000_0000

abbrev pub entry_of : ℕ → ℕ → ℕ
entry_of zero i = 0x3FF0_0000_0000_0000
entry_of (suc j) zero = 0x3FF0_0000_0000_0000
entry_of (suc j) (suc i) = 0xBFF0_0000_0000_0000

abbrev pub saying : Wish → ℕ → Sheet
saying wish seed = record { m = 2; n = 2; seed = seed; edition = 1; wish = wish; weight = weight_of; entry = entry_of }

pub fitting : (wish : Wish) (seed : ℕ) → wish_fits wish ≡ true → seed < 2 ^ 64 → Fits (saying wish seed)
fitting wish seed w s =
    record {
      columns = lit≤ tt;
      rows = lit≤ tt;
      seeds = s;
      editions = (lit≤ tt, lit≤ tt);
      wishes = w;
      weights = λ j l. weight_fits j;
      entries = λ j i l k. entry-fits j i;
    }
  where
    weight_fits : (j : ℕ) → weight_of j < 2 ^ 64
    weight_fits zero = lit< tt
    weight_fits (suc j) = lit< tt

    entry-fits : (j i : ℕ) → entry_of j i < 2 ^ 64
    entry-fits zero i = lit< tt
    entry-fits (suc j) zero = lit< tt
    entry-fits (suc j) (suc i) = lit< tt

-- the answer of a text that is a sheet's
pub job_of : (text : List ℕ) (s : Sheet) → Says text s
    → sheet_answer text ≡ job_text (rule_of s.wish) (seeded s.seed s.edition)
    (tabulate (λ k. of_bits binary64 (s.entry (k / s.n) (k % s.n))) (s.m * s.n)) s.m s.n
    (tabulate (λ j. of_bits binary64 (s.weight j)) s.m)
unfolding sheet_answer
job_of text s y = rw (y.right, y.matrix, y.weights, y.rule, y.seed, y.edition, y.columns, y.rows)

-- what a job that is not refused has for its text
pub text_of : (weights : List Float) (rule : Rule) (source : SplitMix64) (answer : Answer) (v : List Float) → sheet_fault rule matrix 2 2 weights ≡ 0
    → without_counts (answer_of matrix 2 weights source rule) ≡ answer → (returned matrix 2 weights source rule).w ≡ v
    → job_text rule source matrix 2 2 weights ≡ answer_text answer v
unfolding job_answer answer_text ok_line
text_of weights rule source answer v f a r = rw (f, ← a, r)
