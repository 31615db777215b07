-- The sheet of document 01 and its answer, byte for byte, with the rules of C1, C2 and C3 in it.
-- The seed's sixteen digits stand between the opening and the rule.
use Rattle.std.specs.Prelude.{ℕ, List, [], ◌∷◌, ◌++◌}
use Rattle.fields.specs.Texts.{bits_text}

-- "thin\t2\t2\t"
abbrev pub opening : List ℕ
opening =
    116 ∷ 104 ∷ 105 ∷ 110 ∷ 9 ∷ 50 ∷ 9 ∷ 50 ∷ 9 ∷ []

-- "\twithin\t3FE0000000000000\t-\n"
abbrev pub half_rule : List ℕ
half_rule =
    9 ∷ 119 ∷ 105 ∷ 116 ∷ 104 ∷ 105 ∷ 110 ∷ 9 ∷ 51 ∷ 70 ∷ 69 ∷ 48 ∷ 48 ∷ 48 ∷ 48 ∷ 48 ∷ 48 ∷ 48 ∷ 48 ∷ 48 ∷ 48 ∷ 48 ∷
    48 ∷ 48 ∷ 9 ∷ 45 ∷ 10 ∷ []

-- "\twithin\t3FDFFFFFFFFFFFFF\t-\n"
abbrev pub under_half_rule : List ℕ
under_half_rule =
    9 ∷ 119 ∷ 105 ∷ 116 ∷ 104 ∷ 105 ∷ 110 ∷ 9 ∷ 51 ∷ 70 ∷ 68 ∷ 70 ∷ 70 ∷ 70 ∷ 70 ∷ 70 ∷ 70 ∷ 70 ∷ 70 ∷ 70 ∷ 70 ∷ 70 ∷
    70 ∷ 70 ∷ 9 ∷ 45 ∷ 10 ∷ []

-- "\twithin\t0000000000000000\t1\n"
abbrev pub capped_rule : List ℕ
capped_rule =
    9 ∷ 119 ∷ 105 ∷ 116 ∷ 104 ∷ 105 ∷ 110 ∷ 9 ∷ 48 ∷ 48 ∷ 48 ∷ 48 ∷ 48 ∷ 48 ∷ 48 ∷ 48 ∷ 48 ∷ 48 ∷ 48 ∷ 48 ∷ 48 ∷ 48 ∷
    48 ∷ 48 ∷ 9 ∷ 49 ∷ 10 ∷ []

-- "col\t3FF0000000000000\t3FF0000000000000\t3FF0000000000000\ncol\t4008000000000000\t3FF0000000000000\tBFF0000000000000\n"
abbrev pub two_columns : List ℕ
two_columns =
    99 ∷ 111 ∷ 108 ∷ 9 ∷ 51 ∷ 70 ∷ 70 ∷ 48 ∷ 48 ∷ 48 ∷ 48 ∷ 48 ∷ 48 ∷ 48 ∷ 48 ∷ 48 ∷ 48 ∷ 48 ∷ 48 ∷ 48 ∷ 9 ∷ 51 ∷ 70 ∷
    70 ∷ 48 ∷ 48 ∷ 48 ∷ 48 ∷ 48 ∷ 48 ∷ 48 ∷ 48 ∷ 48 ∷ 48 ∷ 48 ∷ 48 ∷ 48 ∷ 9 ∷ 51 ∷ 70 ∷ 70 ∷ 48 ∷ 48 ∷ 48 ∷ 48 ∷ 48 ∷
    48 ∷ 48 ∷ 48 ∷ 48 ∷ 48 ∷ 48 ∷ 48 ∷ 48 ∷ 10 ∷ 99 ∷ 111 ∷ 108 ∷ 9 ∷ 52 ∷ 48 ∷ 48 ∷ 56 ∷ 48 ∷ 48 ∷ 48 ∷ 48 ∷ 48 ∷ 48 ∷
    48 ∷ 48 ∷ 48 ∷ 48 ∷ 48 ∷ 48 ∷ 9 ∷ 51 ∷ 70 ∷ 70 ∷ 48 ∷ 48 ∷ 48 ∷ 48 ∷ 48 ∷ 48 ∷ 48 ∷ 48 ∷ 48 ∷ 48 ∷ 48 ∷ 48 ∷ 48 ∷ 9 ∷
    66 ∷ 70 ∷ 70 ∷ 48 ∷ 48 ∷ 48 ∷ 48 ∷ 48 ∷ 48 ∷ 48 ∷ 48 ∷ 48 ∷ 48 ∷ 48 ∷ 48 ∷ 48 ∷ 10 ∷ []

-- "ok\t1\t1\t3FE0000000000000\nw\t0\t0000000000000000\nw\t1\t3FF0000000000000\n"
abbrev pub one_left_text : List ℕ
one_left_text =
    111 ∷ 107 ∷ 9 ∷ 49 ∷ 9 ∷ 49 ∷ 9 ∷ 51 ∷ 70 ∷ 69 ∷ 48 ∷ 48 ∷ 48 ∷ 48 ∷ 48 ∷ 48 ∷ 48 ∷ 48 ∷ 48 ∷ 48 ∷ 48 ∷ 48 ∷ 48 ∷
    10 ∷ 119 ∷ 9 ∷ 48 ∷ 9 ∷ 48 ∷ 48 ∷ 48 ∷ 48 ∷ 48 ∷ 48 ∷ 48 ∷ 48 ∷ 48 ∷ 48 ∷ 48 ∷ 48 ∷ 48 ∷ 48 ∷ 48 ∷ 48 ∷ 10 ∷ 119 ∷
    9 ∷ 49 ∷ 9 ∷ 51 ∷ 70 ∷ 70 ∷ 48 ∷ 48 ∷ 48 ∷ 48 ∷ 48 ∷ 48 ∷ 48 ∷ 48 ∷ 48 ∷ 48 ∷ 48 ∷ 48 ∷ 48 ∷ 10 ∷ []

-- "ok\t0\t2\t0000000000000000\nw\t0\t3FD0000000000000\nw\t1\t3FE8000000000000\n"
abbrev pub both_left_text : List ℕ
both_left_text =
    111 ∷ 107 ∷ 9 ∷ 48 ∷ 9 ∷ 50 ∷ 9 ∷ 48 ∷ 48 ∷ 48 ∷ 48 ∷ 48 ∷ 48 ∷ 48 ∷ 48 ∷ 48 ∷ 48 ∷ 48 ∷ 48 ∷ 48 ∷ 48 ∷ 48 ∷ 48 ∷
    10 ∷ 119 ∷ 9 ∷ 48 ∷ 9 ∷ 51 ∷ 70 ∷ 68 ∷ 48 ∷ 48 ∷ 48 ∷ 48 ∷ 48 ∷ 48 ∷ 48 ∷ 48 ∷ 48 ∷ 48 ∷ 48 ∷ 48 ∷ 48 ∷ 10 ∷ 119 ∷
    9 ∷ 49 ∷ 9 ∷ 51 ∷ 70 ∷ 69 ∷ 56 ∷ 48 ∷ 48 ∷ 48 ∷ 48 ∷ 48 ∷ 48 ∷ 48 ∷ 48 ∷ 48 ∷ 48 ∷ 48 ∷ 48 ∷ 10 ∷ []

-- the sheet with a rule, and a seed's digits in it
abbrev pub sheet_with : List ℕ → ℕ → List ℕ
sheet_with rule seed = opening ++ (bits_text seed ++ (rule ++ two_columns))
