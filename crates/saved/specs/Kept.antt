-- The sheet that is saved: the first line's own seed, rule, edition and rows, and the columns of the kept lines, each read from its line.
use Rattle.std.specs.Prelude.{ℕ, suc, ◌+◌, ◌*◌, ◌<◌, ◌≡◌, true, List, ◌++◌, get_or, take, drop}
use Rattle.seq.specs.Keep.{keep, count}
use Rattle.fields.specs.Fields.{bits_at}
use Rattle.head.specs.FirstLine.{head_of}
use Rattle.form.specs.Form.{wrong_line}
use Rattle.form.specs.Sheets.{Sheet, sheet_of}
use Rattle.gathering.specs.Lines.{Lines, line_at}
use Rattle.keeping.specs.Saved.{many}
use Rattle.gathering.specs.Kept.{kept}
use Rattle.saved.specs.Whole.{joined}

-- the place, from 0, of kept line k
abbrev pub kept_place : Lines → ℕ → ℕ
kept_place s k = get_or (keep (kept s) (many s)) k 0

-- kept line k
abbrev pub kept_line : Lines → ℕ → List ℕ
kept_line s k = line_at s (kept_place s k)

-- Kept line k is a line of the text: it is kept, and with the lines before it and what follows it it is the text.
pub record Stands (text : List ℕ) (s : Lines) (k : ℕ) : Type 0 where
  pub is : kept s (kept_place s k) ≡ true
  pub stands : joined (take (kept_place s k) s.done)
      ++ (kept_line s k ++ (joined (drop (suc (kept_place s k)) s.done) ++ s.rest)) ≡ text

-- the bits of a column's weight, read from its line
abbrev pub weight_in : List ℕ → ℕ
weight_in line = (bits_at line 4).value

-- and of its entry i
abbrev pub entry_in : List ℕ → ℕ → ℕ
entry_in line i = (bits_at line (4 + 17 + 17 * i)).value

-- the sheet
abbrev pub saved_sheet : Lines → Sheet
saved_sheet s =
    record {
      m = count (kept s) (many s);
      n = (sheet_of (line_at s 0)).n;
      seed = (sheet_of (line_at s 0)).seed;
      edition = (sheet_of (line_at s 0)).edition;
      wish = (sheet_of (line_at s 0)).wish;
      weight = λ k. weight_in (kept_line s k);
      entry = λ k i. entry_in (kept_line s k) i;
    }

-- What `bad` and 2 say of a text: its first line is not wrong, it says that there are columns, and no line is kept.
pub record NoColumn (text : List ℕ) (s : Lines) : Type 0 where
  pub first : wrong_line text ≡ 1 → ⊥
  pub above : 0 < (head_of text).m
  pub none : count (kept s) (many s) ≡ 0
