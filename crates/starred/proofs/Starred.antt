-- The starred cases hold, each for every seed and edition. What is not draw is computed: the normalized weights, their order, the changes.
-- A pass on two weights leaves the larger alone whatever the colouring gives (C8), so that stage 1 is known; then the tests that stop a job
-- are computed too.
use Rattle.std.specs.Prelude.{None, Some}
use Prim.Native.Nat.{ℕ, zero, suc, ◌-◌, ◌^◌, ◌<◌}
use mathlib.Core.Path.{◌≡◌, refl, sym, ap, ◌∙◌, subst}
use mathlib.Core.Bool.{true, false}
use mathlib.Core.List.{List, [], ◌∷◌}
use native.Mathlib.Omega.{arith}
use borrow.Author.Tests.{le-ltb}
use lib.Dec.{T, eqb-suc-zero}
use lib.ListN.{length}
use lib.Seq.{ext_get_or}
use lib.Ieee.{Float, nan, binary64, of_bits, to_bits, fits, is_nan, add, sub, mul, div, lt, le, ne, eq}
use Rattle.seq.specs.Lists.{tabulate}
use Rattle.seq.specs.Sums.{plus_zero, at, sum_from}
use Rattle.seq.specs.Keep.{count, all_to}
use Rattle.ieee.specs.Magnitude.{signum_of, above_of, larger_of, max_abs_to}
use Rattle.ieee.proofs.Normalised.{Normal}
use Rattle.limits.specs.Limits.{numbers_needed, indices_needed}
use Rattle.limits.specs.Matrix.{columns_of}
use Rattle.change.specs.Margins.{change_to, max_change}
use Rattle.weights.specs.Weights.{nonzeros, is_on, l1_of, normalized}
use Rattle.ranking.specs.Ranking.{heavier}
use Rattle.passed.specs.Alone.{Largest, Alone}
use Rattle.stages.specs.Stages.{stage_of}
use Rattle.stages.specs.Stopping.{rests, stops}
use Rattle.rules.specs.Rules.{rule_fault}
use Rattle.faults.specs.Faults.{edition_fault, size_fault, value_fault, job_fault}
use Rattle.answers.specs.Answers.{refusal, answer_at, Thinned}
use Rattle.answers.specs.declared.Answer.{Answer}
use Rattle.rules.specs.declared.Rule.{Rule}
use Rattle.rules.specs.declared.Rule.TheVariants.{Target, Within}
use Rattle.draw.specs.declared.SplitMix64.{SplitMix64}
use Rattle.draw.specs.SplitMix.{seeded}
use Rattle.draw.specs.Uniform.{uniform_at, uniform_of}
use Rattle.draw.proofs.Cases.{state_becomes_zero, largest}
use Rattle.margins.proofs.SmallCase.{answered}
use Rattle.seq.proofs.Choosing.{first_holds}
use Rattle.stages.proofs.Halting.{FirstStop, few_rests}
use Rattle.answers.proofs.Accepting.{values_good}
use Rattle.stages.proofs.Passing.{normal_start}
use Rattle.demand.proofs.DemandThree.{Doubles}
use Rattle.demand.proofs.Settled.{stage_alone, settled}
use Rattle.starred.specs.Cases.{table, hold, half, under_half, quarter, three_quarters, one, minus_one, three, minus_three, four, at_once, one_left}
use Rattle.starred.specs.Cases.{smallest, matrix, without_counts, by, any, thins, refuses, refuses_rule, draws, uniform, Room, called, holds}
use Rattle.seq.specs.Lists.{repeated}
use Rattle.fields.specs.Digits.{digits_of}
use Rattle.fields.specs.Texts.{width_in}
use Rattle.form.specs.Sheets.{Wish, within, entries_text, column_text, columns_text}
use Rattle.form.proofs.OfForm.{of_the_form_is_taken}
use Rattle.asking.specs.Jobs.{sheet_fault, job_text}
use Rattle.answering.specs.Answer.{ok_line, weight_lines, answer_text}
use Rattle.starred.specs.Cases.{on_sheet}
use Rattle.starred.specs.SheetBytes.{sheet_with, half_rule, under_half_rule, capped_rule, one_left_text, both_left_text}
use Rattle.starred.proofs.SheetCases.{room, answered_so, returned_so, saying, fitting, job_of, text_of}

abbrev columns : ℕ → ℕ → Float
columns = columns_of matrix 2

-- ---- two weights

pair : (v : List Float) (a b : Float) → length v ≡ 2 → at v 0 ≡ a → at v 1 ≡ b → v ≡ a ∷ b ∷ []
pair v a b l e f = ext_get_or nan v (a ∷ b ∷ []) l (λ i h. go i (omega arith))
  where
    go : (i : ℕ) → i < 2 → at v i ≡ at (a ∷ b ∷ []) i
    go zero h = e
    go (suc zero) h = f
    go (suc (suc i)) h = absurd (omega arith)

module _ (a b : Float) where
  largest_first : is_on (a ∷ b ∷ []) 0 ≡ true → heavier (a ∷ b ∷ []) 0 1 ≡ true → Largest (a ∷ b ∷ []) 0
  largest_first o h = record { under = omega arith; on = o; first = λ j l p n. let e : j ≡ 1 = omega (arith, nonzero j n) in rw e h }
    where
      nonzero : (j : ℕ) → (j ≡ 0 → ⊥) → 0 < j
      nonzero zero n = absurd (n refl)
      nonzero (suc j) n = omega arith

  largest_second : is_on (a ∷ b ∷ []) 1 ≡ true → heavier (a ∷ b ∷ []) 1 0 ≡ true → Largest (a ∷ b ∷ []) 1
  largest_second o h = record { under = omega arith; on = o; first = λ j l p n. rw (below j l n) h }
    where
      below : (j : ℕ) → j < 2 → (j ≡ 1 → ⊥) → j ≡ 0
      below zero l n = refl
      below (suc zero) l n = absurd (n refl)
      below (suc (suc j)) l n = absurd (omega arith)

-- ---- stage 1 of two weights

module _ (source : SplitMix64) (a b : Float) (normal : Normal binary64 2 (at (a ∷ b ∷ []))) (both : nonzeros (a ∷ b ∷ []) ≡ 2) where
  abbrev next : List Float
  next = (stage_of plus_zero columns 2 (a ∷ b ∷ []) source 1).w

  entries : nonzeros (stage_of plus_zero columns 2 (a ∷ b ∷ []) source 0).w ≡ 2
  unfolding stage_of
  entries = both

  alone : (k : ℕ) → Largest (a ∷ b ∷ []) k → Alone (a ∷ b ∷ []) next k
  unfolding stage_of
  alone = stage_alone columns 2 (a ∷ b ∷ []) source normal (omega arith) 0 (λ j l. absurd (omega arith)) (omega (arith, entries)) (omega (arith, entries))

  first-left : is_on (a ∷ b ∷ []) 1 ≡ true → Largest (a ∷ b ∷ []) 0 → next ≡ signum_of a ∷ plus_zero ∷ []
  first-left o p = let l = alone 0 p in pair next (signum_of a) plus_zero l.long l.there (l.gone 1 (omega arith) o (λ e. omega arith))

  second-left : is_on (a ∷ b ∷ []) 0 ≡ true → Largest (a ∷ b ∷ []) 1 → next ≡ plus_zero ∷ signum_of b ∷ []
  second-left o p = let l = alone 1 p in pair next plus_zero (signum_of b) l.long (l.gone 0 (omega arith) o (λ e. omega arith)) l.there

stage_0 : (start : List Float) (source : SplitMix64) → (stage_of plus_zero columns 2 start source 0).w ≡ start
unfolding stage_of
stage_0 start source = refl

-- ---- a call on two weights

-- with room, only the values can be refused for
fault_is : (rule : Rule) (edition : ℕ) (a b : Float) (output numbers : List Float) (indices : List ℕ) → rule_fault rule ≡ 0 → edition_fault edition ≡ 0
    → Room 2 2 output numbers indices
    → job_fault rule edition matrix 2 2 (a ∷ b ∷ []) (length output) (length numbers) (length indices) ≡ value_fault matrix (a ∷ b ∷ [])
unfolding job_fault size_fault
fault_is rule edition a b output numbers indices f known room =
    rw (f, known, room.places, le-ltb (length numbers) (numbers_needed 2 2) room.floats, le-ltb (length indices) (indices_needed 2 2) room.words)

doubles_of : (a b : Float) → T (fits binary64 a) → T (fits binary64 b) → Doubles (a ∷ b ∷ [])
doubles_of a b p q zero = p
doubles_of a b p q (suc zero) = q
doubles_of a b p q (suc (suc j)) = unfold fits in tt

module _ (a b : Float) (start : List Float) (is : normalized plus_zero (a ∷ b ∷ []) ≡ start) (doubles : Doubles (a ∷ b ∷ []))
    (sound : value_fault matrix (a ∷ b ∷ []) ≡ 0) where
  normal_of : Normal binary64 (length start) (at start)
  normal_of = let v = values_good matrix (a ∷ b ∷ []) sound in rw is at (normal_start (a ∷ b ∷ []) doubles v.ends v.total)

  -- a job that stops at stage k, where the weights are v
  module _ (rule : Rule) (k : ℕ) (v : List Float) (ruled : rule_fault rule ≡ 0)
      (stop : (source : SplitMix64) → Normal binary64 (length start) (at start)
      → FirstStop plus_zero columns 2 start source rule k × ((stage_of plus_zero columns 2 start source k).w ≡ v))
    where
      answers : (source : SplitMix64) (output numbers : List Float) (indices : List ℕ) (r : Answer) (output' numbers' : List Float) (indices' : List ℕ)
          → edition_fault source.edition ≡ 0 → Room 2 2 output numbers indices
          → Thinned rule source matrix 2 2 (a ∷ b ∷ []) output numbers indices r output' numbers' indices'
          → (r ≡ answer_at columns 2 start source rule k) × (output' ≡ v)
      answers source output numbers indices r output' numbers' indices' known room job =
          let s = stop source normal_of in
          let f = fault_is rule source.edition a b output numbers indices ruled known room ∙ sound in
          let t = settled job doubles f k (subst (λ x. FirstStop plus_zero columns 2 x source rule k) (sym is) s.0) in (
            t.0 ∙ ap (λ x. answer_at columns 2 x source rule k) is,
            t.1 ∙ ap (λ x. (stage_of plus_zero columns 2 x source k).w) is ∙ s.1,
          )

      called_so : {answer : Answer} → ((source : SplitMix64) → Normal binary64 (length start) (at start)
          → without_counts (answer_at columns 2 start source rule k) ≡ answer)
          → called (a ∷ b ∷ []) (by rule) (λ output r output'. (without_counts r ≡ answer) × (output' ≡ v))
      called_so e rule' seed edition output numbers indices r output' numbers' indices' c known room job =
          let t = answers (seeded seed edition) output numbers indices r output' numbers' indices' known room (rw c at job) in
          (ap without_counts t.0 ∙ e (seeded seed edition) normal_of, t.1)

at_0 : {start : List Float} {source : SplitMix64} {rule : Rule} → stops plus_zero columns 2 start source rule 0 ≡ true
    → FirstStop plus_zero columns 2 start source rule 0
at_0 h = record { there = h; before = λ i l. absurd (omega arith) }

at_1 : {start : List Float} {source : SplitMix64} {rule : Rule} → stops plus_zero columns 2 start source rule 0 ≡ false → stops plus_zero columns
    2 start source rule 1 ≡ true → FirstStop plus_zero columns 2 start source rule 1
at_1 g h = record { there = h; before = λ i l. let e : i ≡ 0 = omega arith in rw e g }

-- ---- C1 to C3: weights 1 and 3

abbrev shares : List Float
shares = quarter ∷ three_quarters ∷ []

start_13 : normalized plus_zero (one ∷ three ∷ []) ≡ shares
unfolding normalized l1_of sum_from tabulate of_bits add div
start_13 = refl

doubles_13 : Doubles (one ∷ three ∷ [])
unfolding fits of_bits
doubles_13 = doubles_of one three tt tt

sound_13 : value_fault matrix (one ∷ three ∷ []) ≡ 0
unfolding value_fault all_to l1_of sum_from of_bits add le lt eq
sound_13 = refl

module _ (source : SplitMix64) (normal : Normal binary64 2 (at shares)) where
  both_13 : nonzeros shares ≡ 2
  unfolding count of_bits ne
  both_13 = refl

  next_13 : (stage_of plus_zero columns 2 shares source 1).w ≡ plus_zero ∷ one ∷ []
  unfolding heavier above_of of_bits ne lt
  next_13 = second-left source quarter three_quarters normal both_13 refl (largest_second quarter three_quarters refl refl)

  -- stage 1 measures 0.5
  goes_1 : stops plus_zero columns 2 shares source (Within half None) 0 ≡ false
  unfolding count of_bits ne max_change change_to max_abs_to larger_of is_nan lt le sub mul add
  goes_1 = rw (stage_0 shares source, next_13)

  stops_1 : stops plus_zero columns 2 shares source (Within half None) 1 ≡ true
  unfolding count of_bits ne
  stops_1 = rw next_13

  -- which is above the allowance
  stops_2 : stops plus_zero columns 2 shares source (Within under_half None) 0 ≡ true
  unfolding count of_bits ne max_change change_to max_abs_to larger_of is_nan lt le sub mul add
  stops_2 = rw (stage_0 shares source, next_13)

  -- the cap is not met before stage 1
  goes_3 : stops plus_zero columns 2 shares source (Within plus_zero (Some 1)) 0 ≡ false
  unfolding count of_bits ne
  goes_3 = rw (stage_0 shares source)

  stops_3 : stops plus_zero columns 2 shares source (Within plus_zero (Some 1)) 1 ≡ true
  unfolding count of_bits ne
  stops_3 = rw next_13

-- what stage 1 answers, and stage 0
answer_13 : (rule : Rule) (source : SplitMix64) → Normal binary64 2 (at shares) → without_counts (answer_at columns 2 shares source rule 1) ≡ one_left half
unfolding tabulate count of_bits ne max_change change_to max_abs_to larger_of is_nan lt sub mul add
answer_13 rule source normal = rw (stage_0 shares source, next_13 source normal)

answer_13_first : (rule : Rule) (source : SplitMix64) → Normal binary64 2 (at shares) → without_counts (answer_at columns 2 shares source rule 0) ≡ at_once 2
unfolding tabulate count of_bits ne max_change change_to max_abs_to larger_of is_nan lt sub mul add
answer_13_first rule source normal = rw (stage_0 shares source)

ruled_1 : rule_fault (Within half None) ≡ 0
unfolding of_bits le lt eq
ruled_1 = refl

ruled_2 : rule_fault (Within under_half None) ≡ 0
unfolding of_bits le lt eq
ruled_2 = refl

ruled_3 : rule_fault (Within plus_zero (Some 1)) ≡ 0
unfolding of_bits le lt eq
ruled_3 = refl

-- ---- C4: weights 1 and 1

abbrev halves : List Float
halves = half ∷ half ∷ []

start_11 : normalized plus_zero (one ∷ one ∷ []) ≡ halves
unfolding normalized l1_of sum_from tabulate of_bits add div
start_11 = refl

doubles_11 : Doubles (one ∷ one ∷ [])
unfolding fits of_bits
doubles_11 = doubles_of one one tt tt

sound_11 : value_fault matrix (one ∷ one ∷ []) ≡ 0
unfolding value_fault all_to l1_of sum_from of_bits add le lt eq
sound_11 = refl

module _ (source : SplitMix64) (normal : Normal binary64 2 (at halves)) where
  both_11 : nonzeros halves ≡ 2
  unfolding count of_bits ne
  both_11 = refl

  next_11 : (stage_of plus_zero columns 2 halves source 1).w ≡ one ∷ plus_zero ∷ []
  unfolding heavier above_of of_bits ne lt
  next_11 = first-left source half half normal both_11 refl (largest_first half half refl refl)

  goes_4 : stops plus_zero columns 2 halves source (Target 1) 0 ≡ false
  unfolding count of_bits ne
  goes_4 = rw (stage_0 halves source)

  stops_4 : stops plus_zero columns 2 halves source (Target 1) 1 ≡ true
  unfolding count of_bits ne
  stops_4 = rw next_11

answer_11 : (rule : Rule) (source : SplitMix64) → Normal binary64 2 (at halves) → without_counts (answer_at columns 2 halves source rule 1) ≡ one_left one
unfolding tabulate count of_bits ne max_change change_to max_abs_to larger_of is_nan lt sub mul add
answer_11 rule source normal = rw (stage_0 halves source, next_11 source normal)

-- ---- C5: weights -3 and 1

abbrev minus_three_quarters : Float
minus_three_quarters = of_bits binary64 0xBFE8_0000_0000_0000

abbrev signed : List Float
signed = minus_three_quarters ∷ quarter ∷ []

start_31 : normalized plus_zero (minus_three ∷ one ∷ []) ≡ signed
unfolding normalized l1_of sum_from tabulate of_bits add div
start_31 = refl

doubles_31 : Doubles (minus_three ∷ one ∷ [])
unfolding fits of_bits
doubles_31 = doubles_of minus_three one tt tt

sound_31 : value_fault matrix (minus_three ∷ one ∷ []) ≡ 0
unfolding value_fault all_to l1_of sum_from of_bits add le lt eq
sound_31 = refl

module _ (source : SplitMix64) (normal : Normal binary64 2 (at signed)) where
  both_31 : nonzeros signed ≡ 2
  unfolding count of_bits ne
  both_31 = refl

  next_31 : (stage_of plus_zero columns 2 signed source 1).w ≡ minus_one ∷ plus_zero ∷ []
  unfolding heavier above_of of_bits ne lt
  next_31 = first-left source minus_three_quarters quarter normal both_31 refl (largest_first minus_three_quarters quarter refl refl)

  goes_5 : stops plus_zero columns 2 signed source (Target 1) 0 ≡ false
  unfolding count of_bits ne
  goes_5 = rw (stage_0 signed source)

  stops_5 : stops plus_zero columns 2 signed source (Target 1) 1 ≡ true
  unfolding count of_bits ne
  stops_5 = rw next_31

answer_31 : (rule : Rule) (source : SplitMix64) → Normal binary64 2 (at signed) → without_counts (answer_at columns 2 signed source rule 1) ≡ one_left half
unfolding tabulate count of_bits ne max_change change_to max_abs_to larger_of is_nan lt sub mul add
answer_31 rule source normal = rw (stage_0 signed source, next_31 source normal)

-- ---- C6: weights 4 and the smallest subnormal

abbrev lonely : List Float
lonely = one ∷ plus_zero ∷ []

start_tiny : normalized plus_zero (four ∷ smallest ∷ []) ≡ lonely
unfolding normalized l1_of sum_from tabulate of_bits add div
start_tiny = refl

doubles_tiny : Doubles (four ∷ smallest ∷ [])
unfolding fits of_bits
doubles_tiny = doubles_of four smallest tt tt

sound_tiny : value_fault matrix (four ∷ smallest ∷ []) ≡ 0
unfolding value_fault all_to l1_of sum_from of_bits add le lt eq
sound_tiny = refl

lonely-one : (source : SplitMix64) → nonzeros (stage_of plus_zero columns 2 lonely source 0).w ≡ 1
unfolding stage_of count of_bits ne
lonely-one source = refl

answer_tiny : (rule : Rule) (source : SplitMix64) → Normal binary64 2 (at lonely) → without_counts (answer_at columns 2 lonely source rule 0) ≡ at_once 1
unfolding tabulate count of_bits ne max_change change_to max_abs_to larger_of is_nan lt sub mul add
answer_tiny rule source normal = rw (stage_0 lonely source)

case_6 : holds (thins (four ∷ smallest ∷ []) any (at_once 1) lonely)
case_6 rule seed edition output numbers indices r output' numbers' indices' c =
    called_so four smallest lonely start_tiny doubles_tiny sound_tiny rule 0 lonely c
    (λ s n. (
      at_0 (first_holds (rests plus_zero columns 2 lonely s rule 0) _
          (few_rests plus_zero columns 2 lonely s rule 0 c (omega (arith, lonely-one s)))),
      stage_0 lonely s,
    ))
    (answer_tiny rule) rule seed edition output numbers indices r output' numbers' indices' refl

-- ---- C7 and C14: refusals

-- a job with a fault is refused by it, and its output stays
refused : {rule : Rule} {source : SplitMix64} {matrix : List Float} {m n : ℕ} {w output numbers : List Float} {indices : List ℕ} {r : Answer}
    {output' numbers' : List Float} {indices' : List ℕ} (k : ℕ)
    → Thinned rule source matrix m n w output numbers indices r output' numbers' indices' → job_fault rule source.edition matrix m n w (length output)
    (length numbers) (length indices) ≡ suc k
    → (r ≡ refusal (suc k)) × (output' ≡ output)
refused {r = r} k job f =
    let e : r ≡ refusal (suc k) = rw (f, eqb-suc-zero k) at job.answers in
    (e, rw (e, eqb-suc-zero k) at job.writes)

fault_7 : value_fault matrix (plus_zero ∷ plus_zero ∷ []) ≡ 9
unfolding value_fault all_to l1_of sum_from of_bits add le lt eq
fault_7 = refl

case_7 : holds (refuses (plus_zero ∷ plus_zero ∷ []) any 9)
case_7 rule seed edition output numbers indices r output' numbers' indices' c known room job =
    refused 8 job
    (fault_is rule edition plus_zero plus_zero output numbers indices c known room ∙ fault_7)

fault_14 : (edition : ℕ) (matrix : List Float) (m n : ℕ) (w : List Float) (output numbers indices : ℕ)
    → job_fault (Within nan (Some 0)) edition matrix m n w output numbers indices ≡ 1
unfolding job_fault of_bits le lt eq
fault_14 edition matrix m n w output numbers indices = refl

case_14 : holds (refuses_rule (Within nan (Some 0)) 1)
case_14 seed edition matrix m n weights output numbers indices r output' numbers' indices' job = refused 0 job
    (fault_14 edition matrix m n weights (length output) (length numbers) (length indices))

-- ---- C10 and C11: draws

case_10 : holds (draws 0x61C8_8646_80B5_83EB 0 0 (of_bits binary64 0x3C90_0000_0000_0000))
unfolding of_bits
case_10 = state_becomes_zero

case_11 : holds (uniform (2 ^ 53 - 1) one)
unfolding of_bits uniform_of
case_11 word e = ap (uniform_at 53) e ∙ largest.0

case_11_below : holds (uniform (2 ^ 53 - 2) (of_bits binary64 0x3FEF_FFFF_FFFF_FFFE))
unfolding of_bits uniform_of
case_11_below word e = ap (uniform_at 53) e ∙ largest.1

-- ---- C1 to C3, as calls and as sheets

case_1 : holds (thins (one ∷ three ∷ []) (by (Within half None)) (one_left half) (plus_zero ∷ one ∷ []))
case_1 =
    called_so one three shares start_13 doubles_13 sound_13 (Within half None) 1 (plus_zero ∷ one ∷ []) ruled_1
    (λ s n. (at_1 (goes_1 s n) (stops_1 s n), next_13 s n)) (answer_13 (Within half None))

case_2 : holds (thins (one ∷ three ∷ []) (by (Within under_half None)) (at_once 2) shares)
case_2 =
    called_so one three shares start_13 doubles_13 sound_13 (Within under_half None) 0 shares ruled_2
    (λ s n. (at_0 (stops_2 s n), stage_0 shares s)) (answer_13_first (Within under_half None))

case_3 : holds (thins (one ∷ three ∷ []) (by (Within plus_zero (Some 1))) (one_left half) (plus_zero ∷ one ∷ []))
case_3 =
    called_so one three shares start_13 doubles_13 sound_13 (Within plus_zero (Some 1)) 1 (plus_zero ∷ one ∷ []) ruled_3
    (λ s n. (at_1 (goes_3 s n) (stops_3 s n), next_13 s n)) (answer_13 (Within plus_zero (Some 1)))

-- the weights 1 and 3 by a rule that is not refused
module _ (rule : Rule) (answer : Answer) (v : List Float) (ruled : rule_fault rule ≡ 0) (good : answer.number ≡ 0)
    (claim : called (one ∷ three ∷ []) (by rule) (λ output r output'. (without_counts r ≡ answer) × (output' ≡ v))) where
  none_13 : job_fault rule 1 matrix 2 2 (one ∷ three ∷ []) 2 100 100 ≡ 0
  unfolding tabulate
  none_13 = fault_is rule 1 one three (repeated plus_zero 2) (repeated plus_zero 100) (repeated 0 100) ruled refl room ∙ sound_13

  sheet_none_13 : sheet_fault rule matrix 2 2 (one ∷ three ∷ []) ≡ 0
  unfolding sheet_fault
  sheet_none_13 = rw (ruled, sound_13)

  text_13 : (seed : ℕ) → job_text rule (seeded seed 1) matrix 2 2 (one ∷ three ∷ []) ≡ answer_text answer v
  text_13 seed =
      text_of (one ∷ three ∷ []) rule (seeded seed 1) answer v sheet_none_13
      (answered_so (one ∷ three ∷ []) rule answer v claim none_13 good seed)
      (returned_so (one ∷ three ∷ []) rule answer v claim none_13 good seed)

one-left_text : answer_text (one_left half) (plus_zero ∷ one ∷ []) ≡ one_left_text
unfolding answer_text ok_line weight_lines digits_of width_in of_bits to_bits
one-left_text = refl

both-left_text : answer_text (at_once 2) shares ≡ both_left_text
unfolding answer_text ok_line weight_lines digits_of width_in of_bits to_bits
both-left_text = refl

sheet_1 : holds (on_sheet half_rule one_left_text)
unfolding digits_of width_in entries_text column_text columns_text tabulate
sheet_1 seed s =
    let wish : Wish = within 0x3FE0_0000_0000_0000 None in
    job_of (sheet_with half_rule seed) (saying wish seed) (of_the_form_is_taken (saying wish seed) (fitting wish seed refl s))
    ∙ text_13 (Within half None) (one_left half) (plus_zero ∷ one ∷ []) ruled_1 refl case_1 seed ∙ one-left_text

sheet_2 : holds (on_sheet under_half_rule both_left_text)
unfolding digits_of width_in entries_text column_text columns_text tabulate
sheet_2 seed s =
    let wish : Wish = within 0x3FDF_FFFF_FFFF_FFFF None in
    job_of (sheet_with under_half_rule seed) (saying wish seed) (of_the_form_is_taken (saying wish seed) (fitting wish seed refl s))
    ∙ text_13 (Within under_half None) (at_once 2) shares ruled_2 refl case_2 seed ∙ both-left_text

sheet_3 : holds (on_sheet capped_rule one_left_text)
unfolding digits_of width_in entries_text column_text columns_text tabulate
sheet_3 seed s =
    let wish : Wish = within 0 (Some 1) in
    job_of (sheet_with capped_rule seed) (saying wish seed) (of_the_form_is_taken (saying wish seed) (fitting wish seed refl s))
    ∙ text_13 (Within plus_zero (Some 1)) (one_left half) (plus_zero ∷ one ∷ []) ruled_3 refl case_3 seed ∙ one-left_text

-- ---- all of them

pub starred : hold table
starred = (
  case_1,
  (
    sheet_1,
    (
      case_2,
      (
        sheet_2,
        (
          case_3,
          (
            sheet_3,
            (
              called_so one one halves start_11 doubles_11 sound_11 (Target 1) 1 (one ∷ plus_zero ∷ []) refl
                  (λ s n. (at_1 (goes_4 s n) (stops_4 s n), next_11 s n)) (answer_11 (Target 1)),
              (
                called_so minus_three one signed start_31 doubles_31 sound_31 (Target 1) 1 (minus_one ∷ plus_zero ∷ []) refl
                    (λ s n. (at_1 (goes_5 s n) (stops_5 s n), next_31 s n)) (answer_31 (Target 1)),
                (case_6, (case_7, (case_10, (case_11, (case_11_below, (answered, (case_14, tt))))))),
              ),
            ),
          ),
        ),
      ),
    ),
  ),
)
