-- Told between functions: rows less a number that the bits of a column sign, beside a bound.
use Rattle.std.specs.Prelude.{ℕ, ◌+◌, ◌*◌, ◌/◌, ◌%◌, Bool, not, ◌||◌, List, Float}
use Rattle.std.specs.Float.{binary64}
use Rattle.std.specs.Float.Ieee.{sub, le}
use Rattle.seq.specs.Sums.{at}
use Rattle.ieee.specs.Magnitude.{abs_of}
use Rattle.limits.specs.Votes.{bit_at}
use Rattle.votes.specs.Signing.{signed_by}

-- ax - t, signed by the bit of the row
abbrev pub less_signed : List ℕ → Float → List Float → ℕ → Float
less_signed column t ax i = sub binary64 (at ax i) (signed_by (bit_at column i) t)

-- whether none of the four rows from r on, less what the nibble v signs, reaches the bound in magnitude
unfoldable pub below_four : List Float → ℕ → List Float → ℕ → Float → Bool
below_four ax r pairs v bound =
    let a : Bool = le bound (abs_of (sub binary64 (at ax r) (at pairs (2 * (v % 4))))) in
    let b : Bool = le bound (abs_of (sub binary64 (at ax (r + 1)) (at pairs (2 * (v % 4) + 1)))) in
    let c : Bool = le bound (abs_of (sub binary64 (at ax (r + 2)) (at pairs (2 * (v / 4))))) in
    let d : Bool = le bound (abs_of (sub binary64 (at ax (r + 3)) (at pairs (2 * (v / 4) + 1)))) in
    not (((a || b) || c) || d)
