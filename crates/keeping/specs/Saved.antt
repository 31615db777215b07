-- What is saved of a damaged sheet, and the text that is written.
use Rattle.std.specs.Prelude.{ℕ, zero, suc, ◌+◌, ◌-◌, ◌≡◌, Bool, ◌&&◌, List, [], ◌++◌, eqb, leb, ltb, length, drop}
use Rattle.seq.specs.Choice.{pick}
use Rattle.seq.specs.Keep.{count}
use Rattle.fields.specs.Fields.{count_at}
use Rattle.fields.specs.Texts.{count_text, note_text}
use Rattle.head.specs.Words.{thin_word}
use Rattle.head.specs.FirstLine.{head_of}
use Rattle.keeping.specs.Words.{lost_word, bad_word}
use Rattle.gathering.specs.Lines.{Lines, line_at}
use Rattle.gathering.specs.Kept.{is_first, kept, kept_text}

-- how many lines there are: a last piece without a newline counts
abbrev pub many : Lines → ℕ
many s = length s.done + pick (eqb (length s.rest) 0) 0 1

-- the line of a line that is lost, with its number, from 1, and nothing for one that is kept
abbrev pub lost_line : Bool → ℕ → List ℕ
lost_line t number = pick t [] (note_text lost_word number)

-- of k lines from line a those that are lost
unfoldable pub lost_text : (ℕ → Bool) → ℕ → ℕ → List ℕ
lost_text f a zero = []
lost_text f a (suc k) = lost_text f a k ++ lost_line (f (a + k)) (suc (a + k))

-- a first line with another number of columns in the place of its own
abbrev pub corrected : List ℕ → ℕ → List ℕ
corrected line m = thin_word ++ (count_text m ++ drop (count_at line 5).next line)

-- the good sheet
abbrev pub good_sheet : Lines → List ℕ
good_sheet s = corrected (line_at s 0) (count (kept s) (many s)) ++ kept_text (kept s) (line_at s) (many s)

-- no column is left of one or more
abbrev pub none_left : Lines → Bool
none_left s = ltb 0 (head_of (line_at s 0)).m && eqb (count (kept s) (many s)) 0

-- "bad" and 1 where the first line is wrong, "bad" and 2 where no column is left, and else the good sheet
unfoldable pub front_text : Lines → List ℕ
front_text s = pick (is_first (line_at s 0)) (pick (none_left s) (note_text bad_word 2) (good_sheet s)) (note_text bad_word 1)

-- how many lines behind the first are kept or lost: none where all is bad
unfoldable pub judged : Lines → ℕ
judged s = pick (is_first (line_at s 0)) (pick (none_left s) 0 (many s - 1)) 0

-- the text that is written: that, and a "lost" line for each line that is not kept
abbrev pub salvaged : Lines → List ℕ
salvaged s = front_text s ++ lost_text (kept s) 1 (judged s)

-- A text in a lent buffer: the rest of the buffer is left alone, and all of it where the text does not fit, for which 0 is said.
pub record Laid (text : List ℕ) (answer : List ℕ) (r : ℕ) (answer' : List ℕ) : Type 0 where
  pub says : r ≡ pick (leb (length text) (length answer)) (length text) 0
  pub writes : answer' ≡ pick (leb (length text) (length answer)) (text ++ drop (length text) answer) answer
