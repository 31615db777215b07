-- What is read from a sheet as bits: seven numbers of the first line, the weights and the matrix.
use Rattle.std.specs.Prelude.{ℕ, ◌*◌, ◌≡◌, Bool, ◌||◌, List, [], ◌∷◌, ◌++◌, eqb, ltb, length, drop, None, Option, Some}
use Rattle.seq.specs.Choice.{pick}
use Rattle.rules.specs.declared.Rule.{Rule}
use Rattle.rules.specs.declared.Rule.TheVariants.{Target, Within}
use Rattle.head.specs.FirstLine.{head_of}
use Rattle.head.specs.declared.Head.{Head}
use Rattle.form.specs.Form.{wrong_line}
use Rattle.form.specs.Reading.{weight_bits, matrix_bits}

-- the number of a rule with this cap
abbrev pub cap_number : Option ℕ → ℕ
cap_number None = 1
cap_number (Some c) = 2

-- the number of a rule: 0 a target, 1 an allowance without a cap, 2 an allowance with one
abbrev pub rule_number : Rule → ℕ
rule_number (Target t) = 0
rule_number (Within allowance cap) = cap_number cap

-- what a cap says, and 0 where it is absent
abbrev pub cap_limit : Option ℕ → ℕ
cap_limit None = 0
cap_limit (Some c) = c

-- the target or the cap, and 0 where there is none
abbrev pub limit_of : Rule → ℕ
limit_of (Target t) = t
limit_of (Within allowance cap) = cap_limit cap

-- what the first line says
abbrev pub first_of : Head → List ℕ
first_of h = h.m ∷ h.n ∷ h.seed ∷ h.edition ∷ rule_number h.rule ∷ h.allowance ∷ limit_of h.rule ∷ []

-- a list is too short for the largest sheet
abbrev pub too_short : List ℕ → List ℕ → List ℕ → Bool
too_short matrix weights first = ltb (length matrix) 2048 || (ltb (length weights) 32 || ltb (length first) 7)

-- The number is the largest of all where a list is too short, and else that of the first wrong line, 0 where there is none. Only with 0 are
-- the lists written, each from its front.
pub record ReadBack (text matrix weights first : List ℕ) (r : ℕ) (matrix' weights' first' : List ℕ) : Type 0 where
  pub number : r ≡ pick (too_short matrix weights first) 18446744073709551615 (wrong_line text)
  pub matrices : matrix' ≡ pick (eqb r 0) (matrix_bits text (head_of text) ++ drop ((head_of text).m * (head_of text).n) matrix) matrix
  pub weighed : weights' ≡ pick (eqb r 0) (weight_bits text (head_of text) ++ drop (head_of text).m weights) weights
  pub firsts : first' ≡ pick (eqb r 0) (first_of (head_of text) ++ drop 7 first) first
