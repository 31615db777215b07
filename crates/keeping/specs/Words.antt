-- The words of what is written, each with the tab that follows it.
use Rattle.std.specs.Prelude.{ℕ, List, [], ◌∷◌}

-- "lost", which opens the line of a line that is left out
abbrev pub lost_word : List ℕ
lost_word = 108 ∷ 111 ∷ 115 ∷ 116 ∷ 9 ∷ []

-- "bad"
abbrev pub bad_word : List ℕ
bad_word = 98 ∷ 97 ∷ 100 ∷ 9 ∷ []
