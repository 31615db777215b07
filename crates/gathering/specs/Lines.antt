-- A text by lines, whatever its bytes are.
use Rattle.std.specs.Prelude.{ℕ, List, [], ◌∷◌, ◌++◌, eqb, get_or}
use Rattle.seq.specs.Choice.{pick}
use Rattle.fields.specs.Bytes.{newline}

-- the lines that are whole, each with its newline, and the piece behind the last
pub record Lines : Type 0 where
  pub done : List (List ℕ)
  pub rest : List ℕ

-- no byte
abbrev pub no_lines : Lines
no_lines = record { done = []; rest = [] }

-- one byte more
unfoldable pub more : Lines → ℕ → Lines
more s b =
    pick (eqb b newline) (record { done = s.done ++ ((s.rest ++ (b ∷ [])) ∷ []); rest = [] })
    (record { done = s.done; rest = s.rest ++ (b ∷ []) })

-- and a text more
unfoldable pub after : Lines → List ℕ → Lines
after s [] = s
after s (b ∷ text) = after (more s b) text

-- line j, from 0, with nothing in it where it is not there or not whole
abbrev pub line_at : Lines → ℕ → List ℕ
line_at s j = get_or s.done j []
