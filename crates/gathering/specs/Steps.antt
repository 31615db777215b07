-- Told between functions: what is held of a text that was read so far, and how each line changes it.
use Rattle.std.specs.Prelude.{ℕ, ◌+◌, ◌*◌, ◌≤◌, ◌<◌, ◌≡◌, Bool, true, false, ◌&&◌, List, [], ◌++◌, leb, ltb, length, get_or, take, set}
use Rattle.seq.specs.Choice.{pick}
use Rattle.seq.specs.Lists.{part}
use Rattle.seq.specs.Keep.{count}
use Rattle.head.specs.FirstLine.{head_of}
use Rattle.form.specs.Form.{line_long}
use Rattle.gathering.specs.Lines.{Lines, after, line_at}
use Rattle.gathering.specs.Kept.{is_first, is_line, kept, kept_text}
use Rattle.gathering.specs.declared.State.{State}

-- how much of a line is held: more than any good line has
abbrev pub most : ℕ
most = 1110

-- one byte of a line more: it stands behind those that are held of the line, where there are not too many, and r are held then
pub record HeldByte (b end long : ℕ) (room : List ℕ) (r : ℕ) (room' : List ℕ) : Type 0 where
  pub counts : r ≡ pick (ltb long most) (long + 1) long
  pub writes : room' ≡ pick (ltb long most) (set room (end + long) b) room

-- after the first line
unfoldable pub first_state : List ℕ → State
first_state line =
    pick (is_first line)
    (record { lines = 1; long = 0; end = length line; kept = 0; good = true; m = (head_of line).m; n = (head_of line).n })
    (record { lines = 1; long = 0; end = 0; kept = 0; good = false; m = 0; n = 0 })

-- whether a later line is kept
abbrev pub keeps : State → List ℕ → Bool
keeps s line = (s.good && leb s.lines s.m) && is_line s.n line

-- after a later line
unfoldable pub later_state : State → List ℕ → State
later_state s line =
    pick (keeps s line)
    (record { lines = s.lines + 1; long = 0; end = s.end + length line; kept = s.kept + 1; good = s.good; m = s.m; n = s.n })
    (record { lines = s.lines + 1; long = 0; end = s.end; kept = s.kept; good = s.good; m = s.m; n = s.n })

-- what a later line is judged with: sizes and a line within those of a sheet, fewer lines than are ever fed, a mark for each column's line
pub record LineLent (s : State) (line marks : List ℕ) : Type 0 where
  pub rows : s.n ≤ 64
  pub columns : s.m ≤ 32
  pub marked : 33 ≤ length marks
  pub lines : s.lines < 9223372036854775808
  pub ends : s.end ≤ 65536
  pub many : s.kept ≤ 32
  pub short : length line ≤ most

-- r is the state after a later line, which is marked where it is kept
pub record HeldLine (s : State) (line marks : List ℕ) (r : State) (marks' : List ℕ) : Type 0 where
  pub state : r ≡ later_state s line
  pub mark : marks' ≡ pick (keeps s line) (set marks s.lines 1) marks

-- What a state and its two buffers hold of lines: the first line and the kept ones from the front of the room, behind them the first bytes
-- of the line that is not whole, and a mark for each kept line.
pub record Holding (s : Lines) (h : State) (room marks : List ℕ) : Type 0 where
  pub roomy : 36700 ≤ length room
  pub marked : 33 ≤ length marks
  pub lines : h.lines ≡ length s.done
  pub good : h.good ≡ is_first (line_at s 0)
  pub columns : h.m ≡ pick (is_first (line_at s 0)) (head_of (line_at s 0)).m 0
  pub rows : h.n ≡ pick (is_first (line_at s 0)) (head_of (line_at s 0)).n 0
  pub many : h.kept ≡ count (kept s) (length s.done)
  pub text : take h.end room ≡ pick (is_first (line_at s 0)) (line_at s 0) [] ++ kept_text (kept s) (line_at s) (length s.done)
  pub long : h.long ≡ length (take most s.rest)
  pub piece : part h.end h.long room ≡ take most s.rest
  pub end : h.end ≡ pick (is_first (line_at s 0)) (length (line_at s 0)) 0 + h.kept * line_long h.n
  pub marking : (j : ℕ) → j ≤ 32 → get_or marks j 0 ≡ pick (kept s j) 1 0

-- of some lines this is held
pub record Held (h : State) (room marks : List ℕ) : Type 0 where
  pub of : Lines
  pub holds : Holding of h room marks

-- Whatever lines were held, after a text more those lines and the text are held; and there are at most so many lines more.
pub record Took (text : List ℕ) (h : State) (room marks : List ℕ) (r : State) (room' marks' : List ℕ) : Type 0 where
  pub lines : r.lines ≤ h.lines + length text
  pub holds : (s : Lines) → Holding s h room marks → Holding (after s text) r room' marks'

-- where nothing was read yet
abbrev pub start_state : State
start_state = record { lines = 0; long = 0; end = 0; kept = 0; good = false; m = 0; n = 0 }
