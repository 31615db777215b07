-- Told between functions: how many rows of two blocks turn.
use Rattle.std.specs.Prelude.{ℕ, List, length, Float}
use Rattle.seq.specs.Sums.{at}
use Rattle.seq.specs.Keep.{count}
use Rattle.turned.specs.Turned.{turns}

-- how many rows of two blocks turn
abbrev pub turned_in : List Float → List Float → List Float → ℕ
turned_in before after thresholds = count (λ i. turns (at thresholds i) (at before i) (at after i)) (length before)
