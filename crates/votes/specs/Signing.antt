-- Told between functions: a number that is signed by the bits of a column, and what it adds to a vector over the rows.
use Rattle.std.specs.Prelude.{ℕ, ◌+◌, ◌*◌, ◌/◌, ◌%◌, Bool, List, set, Float}
use Rattle.std.specs.Float.{binary64}
use Rattle.std.specs.Float.Ieee.{add, neg}
use Rattle.seq.specs.Choice.{pick}
use Rattle.seq.specs.Sums.{at}
use Rattle.limits.specs.Votes.{bit_of, bit_at}

-- -t where the test holds, and t where it does not
abbrev pub signed_by : Bool → Float → Float
signed_by b t = pick b (neg t) t

-- the four signed pairs of t: at 2 v + j stands -t where bit j of v is set, and t where it is not
abbrev pub pair_at : Float → ℕ → Float
pair_at t k = signed_by (bit_of (k / 2) (k % 2)) t

-- the sixteen signed quadruples of t: at 4 v + j stands -t where bit j of v is set, and t where it is not
abbrev pub quad_at : Float → ℕ → Float
quad_at t k = signed_by (bit_of (k / 4) (k % 4)) t

-- acc + t, signed by the bit of the row
abbrev pub signed_at : List ℕ → Float → List Float → ℕ → Float
signed_at column t acc i = add binary64 (at acc i) (signed_by (bit_at column i) t)

-- acc + t + u, each signed by the bit of its own column
abbrev pub signed_two : List ℕ → Float → List ℕ → Float → List Float → ℕ → Float
signed_two column t other u acc i = add binary64 (add binary64 (at acc i) (signed_by (bit_at column i) t)) (signed_by (bit_at other i) u)

-- acc + the four that the nibble v signs, from row r on
unfoldable pub added_four : List Float → ℕ → List Float → ℕ → List Float
added_four acc r pairs v =
    let a : Float = add binary64 (at acc r) (at pairs (2 * (v % 4))) in
    let b : Float = add binary64 (at acc (r + 1)) (at pairs (2 * (v % 4) + 1)) in
    let c : Float = add binary64 (at acc (r + 2)) (at pairs (2 * (v / 4))) in
    let d : Float = add binary64 (at acc (r + 3)) (at pairs (2 * (v / 4) + 1)) in
    set (set (set (set acc r a) (r + 1) b) (r + 2) c) (r + 3) d

-- acc + two pairs of a table and two of another, in order, from row r on
unfoldable pub added_twos : List Float → ℕ → List Float → ℕ → ℕ → List Float → ℕ → ℕ → List Float
added_twos acc r table p q others x y =
    let a : Float = add binary64 (add binary64 (at acc r) (at table p)) (at others x) in
    let b : Float = add binary64 (add binary64 (at acc (r + 1)) (at table (p + 1))) (at others (x + 1)) in
    let c : Float = add binary64 (add binary64 (at acc (r + 2)) (at table q)) (at others y) in
    let d : Float = add binary64 (add binary64 (at acc (r + 3)) (at table (q + 1))) (at others (y + 1)) in
    set (set (set (set acc r a) (r + 1) b) (r + 2) c) (r + 3) d
