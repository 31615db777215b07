-- The words of an answer, each with the tab that follows it.
use Rattle.std.specs.Prelude.{ℕ, List, [], ◌∷◌}

-- "ok", which opens the answer of an accepted job
abbrev pub ok_word : List ℕ
ok_word = 111 ∷ 107 ∷ 9 ∷ []

-- "w", which opens a weight's line
abbrev pub weight_word : List ℕ
weight_word = 119 ∷ 9 ∷ []

-- "refused"
abbrev pub refused_word : List ℕ
refused_word = 114 ∷ 101 ∷ 102 ∷ 117 ∷ 115 ∷ 101 ∷ 100 ∷ 9 ∷ []

-- "bad"
abbrev pub bad_word : List ℕ
bad_word = 98 ∷ 97 ∷ 100 ∷ 9 ∷ []
