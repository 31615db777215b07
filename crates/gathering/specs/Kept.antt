-- Which lines of a damaged sheet are kept.
use Rattle.std.specs.Prelude.{ℕ, zero, suc, Bool, ◌&&◌, List, [], ◌++◌, eqb, leb, ltb, length}
use Rattle.seq.specs.Choice.{pick}
use Rattle.head.specs.FirstLine.{has_head, head_of}
use Rattle.form.specs.Form.{line_long, is_column}
use Rattle.gathering.specs.Lines.{Lines, line_at}

-- a first line of the form, and nothing behind it
unfoldable pub is_first : List ℕ → Bool
is_first line = has_head line && eqb (head_of line).next (length line)

-- a column's line of the form with n entries, and nothing behind it
unfoldable pub is_line : ℕ → List ℕ → Bool
is_line n line = eqb (length line) (line_long n) && is_column line n 0

-- Line j is kept behind this first line: which is good, j is one of the m lines after it, and it is a column's.
unfoldable pub kept_by : List ℕ → ℕ → List ℕ → Bool
kept_by first j line = is_first first && ((ltb 0 j && leb j (head_of first).m) && is_line (head_of first).n line)

-- line j of these is kept
abbrev pub kept : Lines → ℕ → Bool
kept s j = kept_by (line_at s 0) j (line_at s j)

-- the kept ones of the first k lines
unfoldable pub kept_text : (ℕ → Bool) → (ℕ → List ℕ) → ℕ → List ℕ
kept_text f line zero = []
kept_text f line (suc k) = let r : List ℕ = kept_text f line k in pick (f k) (r ++ line k) r
