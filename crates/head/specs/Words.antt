-- The words of the first line, each with the tab that follows it, and its end in edition 2.
use Rattle.std.specs.Prelude.{ℕ, List, [], ◌∷◌}

-- "thin", which opens a sheet
abbrev pub thin_word : List ℕ
thin_word = 116 ∷ 104 ∷ 105 ∷ 110 ∷ 9 ∷ []

-- "target"
abbrev pub target_word : List ℕ
target_word = 116 ∷ 97 ∷ 114 ∷ 103 ∷ 101 ∷ 116 ∷ 9 ∷ []

-- "within"
abbrev pub within_word : List ℕ
within_word = 119 ∷ 105 ∷ 116 ∷ 104 ∷ 105 ∷ 110 ∷ 9 ∷ []

-- the end of a first line of edition 2: a tab, "2" and a newline
abbrev pub second_edition : List ℕ
second_edition = 9 ∷ 50 ∷ 10 ∷ []

-- "-", the absent cap
abbrev pub dash : ℕ
dash = 45
