-- The starred cases of document 01, "Numbers to hold it to": one table, and what each row claims, in the words of the exported calls'
-- promises.
use Rattle.std.specs.Prelude.{ℕ, ◌-◌, ◌/◌, ◌^◌, ◌≤◌, ◌<◌, ◌≡◌, true, List, [], ◌∷◌, T, length, Float, None, Some}
use Rattle.std.specs.Float.{nan, binary64}
use Rattle.std.specs.Float.Ieee.{of_bits}
use Rattle.seq.specs.Lists.{repeated}
use Rattle.seq.specs.Sums.{plus_zero}
use Rattle.draw.specs.SplitMix.{seeded, output_of, after_of}
use Rattle.draw.specs.Uniform.{uniform_of, uniform_in}
use Rattle.limits.specs.Limits.{numbers_needed, indices_needed}
use Rattle.margins.specs.Answers.{change_answer}
use Rattle.answers.specs.Answers.{refusal, Thinned}
use Rattle.rules.specs.Rules.{rule_fault}
use Rattle.faults.specs.Faults.{edition_fault}
use Rattle.sheet.specs.Answer.{sheet_answer}
use Rattle.starred.specs.SheetBytes.{sheet_with, half_rule, under_half_rule, capped_rule, one_left_text, both_left_text}
use Rattle.answers.specs.declared.Answer.{Answer}
use Rattle.rules.specs.declared.Rule.{Rule}
use Rattle.rules.specs.declared.Rule.TheVariants.{Target, Within}

-- ---- what a row can claim

-- the rules that a case speaks of: one, or each that is not itself refused
pub data Rules : Type 0 where
  by : Rule → Rules
  any : Rules

pub data Case : Type 0 where
  -- these weights by these rules, whatever the seed and the edition: the answer without its counts, and what is written
  thins : List Float → Rules → Answer → List Float → Case
  -- a sheet with this rule in it, whatever the seed that it says: the text of its answer
  on_sheet : List ℕ → List ℕ → Case
  -- these weights by these rules, whatever the seed and the edition: refused by this number, and nothing is written
  refuses : List Float → Rules → ℕ → Case
  -- a rule that is refused by this number whatever it is to thin
  refuses_rule : Rule → ℕ → Case
  -- a state of the generator: the state after it, the output, and its uniform in edition 1
  draws : ℕ → ℕ → ℕ → Float → Case
  -- the uniform in edition 1 of an output whose upper 53 bits are these
  uniform : ℕ → Float → Case
  -- from the first weights to the second, a margin changes by this at most
  changes : List Float → List Float → Float → Case

-- a case by its number in document 01
pub record Row : Type 0 where
  pub number : ℕ
  pub claim : Case

-- ---- the table

-- doubles by their bits
abbrev pub half : Float
half = of_bits binary64 0x3FE0_0000_0000_0000

abbrev pub under_half : Float
under_half = of_bits binary64 0x3FDF_FFFF_FFFF_FFFF

abbrev pub quarter : Float
quarter = of_bits binary64 0x3FD0_0000_0000_0000

abbrev pub three_quarters : Float
three_quarters = of_bits binary64 0x3FE8_0000_0000_0000

abbrev pub one : Float
one = of_bits binary64 0x3FF0_0000_0000_0000

abbrev pub minus_one : Float
minus_one = of_bits binary64 0xBFF0_0000_0000_0000

abbrev pub three : Float
three = of_bits binary64 0x4008_0000_0000_0000

abbrev pub minus_three : Float
minus_three = of_bits binary64 0xC008_0000_0000_0000

abbrev pub four : Float
four = of_bits binary64 0x4010_0000_0000_0000

abbrev pub smallest : Float
smallest = of_bits binary64 1

-- C1's matrix, two rows: the columns (1, 1) and (1, -1)
abbrev pub matrix : List Float
matrix = one ∷ one ∷ one ∷ minus_one ∷ []

-- an answer without its counts of directions and sweeps, of which document 01's cases say nothing
abbrev pub without_counts : Answer → Answer
without_counts r =
    record {
      number = r.number;
      stage = r.stage;
      nonzeros = r.nonzeros;
      change = r.change;
      directions = 0;
      sweeps = 0;
      path_nonzeros = r.path_nonzeros;
      path_change = r.path_change;
    }

-- the answer with stage 0, where k are nonzero
abbrev pub at_once : ℕ → Answer
at_once k =
    record {
      number = 0;
      stage = 0;
      nonzeros = k;
      change = plus_zero;
      directions = 0;
      sweeps = 0;
      path_nonzeros = k ∷ repeated 0 8;
      path_change = repeated plus_zero 9;
    }

-- the answer with stage 1, where one of two is left and a margin has changed by so much
abbrev pub one_left : Float → Answer
one_left change =
    record {
      number = 0;
      stage = 1;
      nonzeros = 1;
      change = change;
      directions = 0;
      sweeps = 0;
      path_nonzeros = 2 ∷ 1 ∷ repeated 0 7;
      path_change = plus_zero ∷ change ∷ repeated plus_zero 7;
    }

abbrev pub table : List Row
table =
    -- C1, the sheet: weights 1 and 3, allowance 0.5, no cap
    record { number = 1; claim = thins (one ∷ three ∷ []) (by (Within half None)) (one_left half) (plus_zero ∷ one ∷ []) }
    -- and from the sheet's bytes to the answer's
    ∷ record { number = 1; claim = on_sheet half_rule one_left_text }
    -- C2, an allowance just below 0.5: the normalized weights
    ∷ record { number = 2; claim = thins (one ∷ three ∷ []) (by (Within under_half None)) (at_once 2) (quarter ∷ three_quarters ∷ []) }
    ∷ record { number = 2; claim = on_sheet under_half_rule both_left_text }
    -- C3, allowance 0 and cap 1: as C1
    ∷ record { number = 3; claim = thins (one ∷ three ∷ []) (by (Within plus_zero (Some 1))) (one_left half) (plus_zero ∷ one ∷ []) }
    ∷ record { number = 3; claim = on_sheet capped_rule one_left_text }
    -- C4, equal weights: the first is left
    ∷ record { number = 4; claim = thins (one ∷ one ∷ []) (by (Target 1)) (one_left one) (one ∷ plus_zero ∷ []) }
    -- C5, a negative weight keeps its sign
    ∷ record { number = 5; claim = thins (minus_three ∷ one ∷ []) (by (Target 1)) (one_left half) (minus_one ∷ plus_zero ∷ []) }
    -- C6, a weight that underflows at stage 0, by every rule
    ∷ record { number = 6; claim = thins (four ∷ smallest ∷ []) any (at_once 1) (one ∷ plus_zero ∷ []) }
    -- C7, no weight, by every rule
    ∷ record { number = 7; claim = refuses (plus_zero ∷ plus_zero ∷ []) any 9 }
    -- C10, the state that becomes 0: output 0, uniform 2 ^ -54
    ∷ record { number = 10; claim = draws 0x61C8_8646_80B5_83EB 0 0 (of_bits binary64 0x3C90_0000_0000_0000) }
    -- C11, the largest N: uniform 1; the one below it: 1 - 2 ^ -52
    ∷ record { number = 11; claim = uniform (2 ^ 53 - 1) one }
    ∷ record { number = 11; claim = uniform (2 ^ 53 - 2) (of_bits binary64 0x3FEF_FFFF_FFFF_FFFE) }
    -- C12, 0.5, 0.5 to 1, 0: a margin changes by 1
    ∷ record { number = 12; claim = changes (half ∷ half ∷ []) (one ∷ plus_zero ∷ []) one }
    -- C14, allowance NaN and cap 0
    ∷ record { number = 14; claim = refuses_rule (Within nan (Some 0)) 1 }
    ∷ []

-- ---- what it means

abbrev pub covers : Rules → Rule → Type 0
covers (by r) rule = rule ≡ r
covers any rule = rule_fault rule ≡ 0

-- the output is as long as the weights, and the scratch is long enough
pub record Room (m n : ℕ) (output numbers : List Float) (indices : List ℕ) : Type 0 where
  pub places : length output ≡ m
  pub floats : numbers_needed m n ≤ length numbers
  pub words : indices_needed m n ≤ length indices

-- whatever the seed, the edition and the scratch, a call on the matrix has an answer and an output of which P holds; P is told the
-- output as it was lent
abbrev pub called : List Float → Rules → (List Float → Answer → List Float → Type 0) → Type 0
called weights rules P =
    (rule : Rule) (seed edition : ℕ) (output numbers : List Float) (indices : List ℕ) (r : Answer)
    (output' numbers' : List Float) (indices' : List ℕ)
    → covers rules rule → edition_fault edition ≡ 0 → Room 2 2 output numbers indices
    → Thinned rule (seeded seed edition) matrix 2 2 weights output numbers indices r output' numbers' indices'
    → P output r output'

abbrev pub holds : Case → Type 0
holds (thins weights rules answer written) =
    called weights rules (λ output r output'. (without_counts r ≡ answer) × (output' ≡ written))
holds (on_sheet rule answer) = (seed : ℕ) → seed < 2 ^ 64 → sheet_answer (sheet_with rule seed) ≡ answer
holds (refuses weights rules number) = called weights rules (λ output r output'. (r ≡ refusal number) × (output' ≡ output))
holds (refuses_rule rule number) =
    (seed edition : ℕ) (matrix : List Float) (m n : ℕ) (weights output numbers : List Float) (indices : List ℕ)
    (r : Answer) (output' numbers' : List Float) (indices' : List ℕ)
    → Thinned rule (seeded seed edition) matrix m n weights output numbers indices r output' numbers' indices'
    → (r ≡ refusal number) × (output' ≡ output)
holds (draws state after output value) =
    let rng = seeded state 1 in ((after_of rng).state ≡ after) × (output_of rng ≡ output) × (uniform_in rng ≡ value)
holds (uniform n value) = (word : ℕ) → word / 2 ^ 11 ≡ n → uniform_of 1 word ≡ value
holds (changes before after change) = change_answer matrix 2 2 before after ≡ record { number = 0; change = change }

-- each row holds
abbrev pub hold : List Row → Type 0
hold [] = T true
hold (row ∷ rows) = holds row.claim × hold rows
