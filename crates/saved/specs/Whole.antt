-- The lines that a text is made of, said without reading it byte by byte.
use Rattle.std.specs.Prelude.{ℕ, ◌+◌, ◌<◌, ◌≡◌, List, [], ◌∷◌, ◌++◌, eqb, length}
use Rattle.seq.specs.Choice.{pick}
use Rattle.fields.specs.Bytes.{newline}
use Rattle.gathering.specs.Lines.{Lines, line_at}

-- lines put together
unfoldable pub joined : List (List ℕ) → List ℕ
joined [] = []
joined (line ∷ lines) = line ++ joined lines

-- how many newlines there are
unfoldable pub newlines : List ℕ → ℕ
newlines [] = 0
newlines (b ∷ text) = pick (eqb b newline) 1 0 + newlines text

-- a line that is whole: its newline is its last byte, and it has no other
pub record Whole (line : List ℕ) : Type 0 where
  pub body : List ℕ
  pub ends : line ≡ body ++ (newline ∷ [])
  pub plain : newlines body ≡ 0

-- the lines of a text: put together they are the text, each is whole, and the piece behind the last has no newline
pub record LinesOf (text : List ℕ) (s : Lines) : Type 0 where
  pub all : joined s.done ++ s.rest ≡ text
  pub lines : (j : ℕ) → j < length s.done → Whole (line_at s j)
  pub piece : newlines s.rest ≡ 0
