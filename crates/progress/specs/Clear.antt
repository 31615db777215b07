-- Where every step is proved to get somewhere. Squares below 2 ^ -1074 underflow, so that a row of tiny entries is not made as long as 1.
use Rattle.std.specs.Prelude.{ℕ, ◌<◌, Bool, false, not, ◌||◌, negsuc, T, leb, length, Float}
use Rattle.std.specs.Float.{fin}
use Rattle.std.specs.Float.Ieee.{le, lt}
use Rattle.seq.specs.Sums.{plus_zero}
use Rattle.ieee.specs.Magnitude.{abs_of}
use Rattle.ieee.specs.Flat.{is_zero}
use Rattle.seq.specs.Keep.{all_to}
use Rattle.progress.specs.Original.{Generator, before, columns_at, entries_at}

-- 2 ^ -480
abbrev pub least_entry : Float
least_entry = fin false 1 (negsuc 479)

-- row i is 0 on l columns
abbrev pub blank_row : (ℕ → ℕ → Float) → ℕ → ℕ → Bool
blank_row a l i = all_to (λ p. is_zero (a p i)) l

-- every entry of row i on l columns is below 2 ^ -480 in magnitude
abbrev pub tiny_row : (ℕ → ℕ → Float) → ℕ → ℕ → Bool
tiny_row a l i = all_to (λ p. lt (abs_of (a p i)) least_entry) l

-- a phase on l columns and n rows is clear: it has at most 60 columns, or each of its rows that is tiny is 0
unfoldable pub clear : (ℕ → ℕ → Float) → ℕ → ℕ → Bool
clear a l n = leb l 60 || all_to (λ i. blank_row a l i || not (tiny_row a l i)) n

-- every phase of the colouring of k columns and n rows is
pub record Clear (a : ℕ → ℕ → Float) (k n : ℕ) (rng : Generator) : Type 0 where
  pub phases : (i : ℕ) → let b = before plus_zero a k n rng i in T (clear (entries_at a k b) (length (columns_at k b)) n)

-- an entry that is 0, or at least 2 ^ -480 in magnitude; a matrix of such entries is clear
abbrev pub sizable : Float → Bool
sizable x = is_zero x || le least_entry (abs_of x)

pub record Sizable (k n : ℕ) (a : ℕ → ℕ → Float) : Type 0 where
  pub each : (p i : ℕ) → p < k → i < n → T (sizable (a p i))
