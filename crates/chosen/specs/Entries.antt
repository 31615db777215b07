-- How an entry is read: of columns that are chosen from a lent matrix and scaled, with the row of the scales' magnitudes under them.
use Rattle.std.specs.Prelude.{ℕ, List, get_or, Float}
use Rattle.seq.specs.Sums.{at}
use Rattle.limits.specs.Reading.{read_of}
use Rattle.staying.specs.Scaling.{scaled_by}

-- column p: the n entries of the column that the p-th of cols names, of doubles or of bits, scaled by the p-th of scale
abbrev pub entry_of : List Float → List ℕ → ℕ → List ℕ → List Float → ℕ → ℕ → Float
entry_of matrix bits n cols scale p = scaled_by (read_of matrix bits n (get_or cols p 0)) n (at scale p)
