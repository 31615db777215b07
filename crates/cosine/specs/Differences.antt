-- Told between functions: a difference of two sums, as a double.
use Rattle.std.specs.Prelude.{ℕ, ◌-◌, ◌^◌, min, not, cond, leb, Float}
use Rattle.cosine.specs.Cosine.{signed, unit_of}

-- the difference of the two sums in units of 1 / 2 ^ 51, as a double with its sign, cut to -1 and 1
abbrev pub difference_of : ℕ → ℕ → Float
difference_of plus minus = signed (not (leb minus plus))
    (unit_of (cond (leb minus plus) (min (plus - minus) (2 ^ 51)) (min (minus - plus) (2 ^ 51))))
