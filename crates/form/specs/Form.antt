-- The form of a sheet, by places: each line's length follows from the first line, so that every field's place is known.
use Rattle.std.specs.Prelude.{ℕ, zero, suc, ◌+◌, ◌*◌, Bool, ◌&&◌, List, [], ◌∷◌, eqb, ltb, length}
use Rattle.seq.specs.Choice.{pick}
use Rattle.seq.specs.Keep.{all_to}
use Rattle.fields.specs.Bytes.{tab, newline, byte_at, spelled}
use Rattle.fields.specs.Fields.{is_bits}
use Rattle.head.specs.FirstLine.{has_head, head_of}
use Rattle.head.specs.declared.Head.{Head}

-- how long a column's line is, with n entries
abbrev pub line_long : ℕ → ℕ
line_long n = 21 + 17 * n

-- an entry at i: a tab, and bits
abbrev pub is_entry : List ℕ → ℕ → Bool
is_entry text i = eqb (byte_at text i) tab && is_bits text (suc i)

-- "col", which opens a column's line, with the tab that follows it
abbrev pub col_word : List ℕ
col_word = 99 ∷ 111 ∷ 108 ∷ 9 ∷ []

-- a column's line at i: "col", the weight's bits, n entries, and a newline
unfoldable pub is_column : List ℕ → ℕ → ℕ → Bool
is_column text n i =
    (spelled col_word text i && is_bits text (i + 4))
    && (all_to (λ k. is_entry text (i + 20 + 17 * k)) n && eqb (byte_at text (i + 20 + 17 * n)) newline)

-- how many of k lines from i are columns, before the first that is none
unfoldable pub columns_from : List ℕ → ℕ → ℕ → ℕ → ℕ
columns_from text n i zero = 0
columns_from text n i (suc k) = let r : ℕ = columns_from text n (i + line_long n) k in pick (is_column text n i) (suc r) 0

-- where the last column's line ends
abbrev pub end_of : Head → ℕ
end_of h = h.next + h.m * line_long h.n

-- The first wrong line after a good first one: of the columns, or the line after the last where anything follows it; 0 where there is none.
abbrev pub wrong_after : List ℕ → Head → ℕ → ℕ
wrong_after text h good = pick (ltb good h.m) (good + 2) (pick (eqb (length text) (end_of h)) 0 (h.m + 2))

-- the number of the first wrong line, from 1, or 0 where the sheet is of the form
unfoldable pub wrong_line : List ℕ → ℕ
wrong_line text =
    pick (has_head text)
    (wrong_after text (head_of text) (columns_from text (head_of text).n (head_of text).next (head_of text).m))
    1
