-- Told between functions: a row that cannot be the worst, since it is blocked or stands no higher than the worst so far.
use Rattle.std.specs.Prelude.{ℕ, Bool, ◌||◌, List, Float}
use Rattle.std.specs.Float.Ieee.{le}
use Rattle.seq.specs.Sums.{at}
use Rattle.seq.specs.Marks.{is_set}
use Rattle.ieee.specs.Magnitude.{abs_of}

-- row k has a magnitude of at most top, or is blocked
abbrev pub passed : List Float → List ℕ → Float → ℕ → Bool
passed ax blocked top k = le (abs_of (at ax k)) top || is_set blocked k
