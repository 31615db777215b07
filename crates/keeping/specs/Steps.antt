-- Told between functions: what is written of what is held.
use Rattle.std.specs.Prelude.{ℕ, ◌+◌, ◌-◌, ◌≤◌, ◌<◌, ◌≡◌, Bool, true, not, ◌&&◌, List, ◌++◌, eqb, leb, ltb, length, get_or, take}
use Rattle.seq.specs.Choice.{pick}
use Rattle.fields.specs.Fields.{count_at}
use Rattle.fields.specs.Texts.{note_text}
use Rattle.gathering.specs.declared.State.{State}
use Rattle.keeping.specs.Words.{bad_word}
use Rattle.keeping.specs.Saved.{lost_text, corrected}

-- how many lines there are: one that is not whole counts
abbrev pub lines_in : State → ℕ
lines_in s = s.lines + pick (eqb s.long 0) 0 1

-- whether line j is marked as kept
abbrev pub kept_in : State → List ℕ → ℕ → Bool
kept_in s marks j = leb j s.m && not (eqb (get_or marks j 0) 0)

-- what the lines of the lost ones of k lines from line a are written with: room for them from i on, a mark for each column's line, and
-- numbers that a word holds
pub record LossesLent (out : List ℕ) (i : ℕ) (s : State) (marks : List ℕ) (a k : ℕ) : Type 0 where
  pub room : i + length (lost_text (kept_in s marks) a k) ≤ length out
  pub columns : s.m ≤ 32
  pub marked : 33 ≤ length marks
  pub numbered : a + k < 18446744073709551615

-- a good first line stands whole in what is held, so that the place of its number of columns is known
pub record Opened (s : State) (room : List ℕ) : Type 0 where
  pub opened : s.good ≡ true → (count_at (take s.end room) 5).next ≤ length (take s.end room)

-- no column is left of one or more
abbrev pub none_in : State → Bool
none_in s = ltb 0 s.m && eqb s.kept 0

-- what stands before the lines of those that are lost
unfoldable pub front_in : State → List ℕ → List ℕ
front_in s room = pick s.good (pick (none_in s) (note_text bad_word 2) (corrected (take s.end room) s.kept)) (note_text bad_word 1)

-- how many lines behind the first are kept or lost
unfoldable pub judged_in : State → ℕ
judged_in s = pick s.good (pick (none_in s) 0 (lines_in s - 1)) 0

-- the text that is written of what is held
abbrev pub held_text : State → List ℕ → List ℕ → List ℕ
held_text s room marks = front_in s room ++ lost_text (kept_in s marks) 1 (judged_in s)
