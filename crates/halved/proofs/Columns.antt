-- The columns that a colouring is handed are those of the definition: read through the indices of the remaining rest and their scales, a matrix of n rows
-- and the row under them have the same entries, so that the colours are the same.
use borrow.Author.Tests.{lt-ltb, le-ltb, eq-eqb, ne_eqb}
use Prim.Native.Nat.{ℕ, suc, ◌+◌, ◌≤◌, ◌<◌}
use mathlib.Core.Path.{◌≡◌, ap, ◌∙◌}
use mathlib.Core.List.{List}
use native.Mathlib.Omega.{arith}
use native.Mathlib.Decide.{dec_lt}
use native.Mathlib.Numerals.{add-one}
use lib.ListN.{length, get_or}
use lib.Ieee.{Float, nan}
use Rattle.seq.specs.Lists.{tabulate}
use Rattle.seq.specs.Sums.{plus_zero, at}
use Rattle.seq.proofs.Filling.{get_or-tab}
use Rattle.chosen.specs.Entries.{entry_of}
use Rattle.entries.proofs.Reading.{entry_own, entry-under}
use Rattle.colored.specs.Coloring.{Colored, coloring_of}
use Rattle.colored.proofs.SameColumns.{coloring_same}
use Rattle.colored.proofs.Counts.{directions_most, sweeps_few}
use Rattle.limits.specs.Reading.{read_of, Lies, Whole}
use Rattle.limits.proofs.Spare.{whole_lies}
use Rattle.doubling.specs.Doubling.{remaining, scale_at, sigma_of, halved_to}
use Rattle.halved.specs.Halve.{Halved, scaled_columns, halved_by, halved_once}
use Rattle.halved.specs.Handed.{Countable}
use Rattle.colored.specs.Fresh.{ColoredAs}
use Rattle.colored.specs.declared.Counted.{Counted}
use Rattle.draw.specs.declared.SplitMix64.{SplitMix64}

module _ (matrix : List Float) (bits : List ℕ) (n : ℕ) (w : List Float) (ω : Float) (r : List ℕ) (whole : Whole matrix bits (length w) n)
    (inside : (p : ℕ) → p < length r → get_or r p 0 < length w) where
  abbrev scales : List Float
  scales = tabulate (scale_at w ω r) (length r)

  -- each column lies in the matrix
  pub column_inside : (p : ℕ) → p < length r → Lies matrix bits n (get_or r p 0)
  column_inside p l = whole_lies whole (get_or r p 0) (inside p l)

  entry_same : (p i : ℕ) → p < length r → i < suc n → entry_of matrix bits n r scales p i ≡ scaled_columns (read_of matrix bits n) n w ω r p i
  entry_same p i l g = go (dec_lt i n)
    where
      own : at scales p ≡ scale_at w ω r p
      own = get_or-tab (scale_at w ω r) (length r) p nan l

      go : Dec (i < n) → entry_of matrix bits n r scales p i ≡ scaled_columns (read_of matrix bits n) n w ω r p i
      go (yes h) = entry_own matrix bits n r scales p i h ∙ rw (lt-ltb i n h, own)
      go (no h) =
          let under : n ≤ i = omega arith in
          entry-under matrix bits n r scales p i under ∙ rw (le-ltb i n under, own)

  pub colours_same : (rng : SplitMix64) → coloring_of plus_zero (entry_of matrix bits n r scales) (length r) (n + 1) rng ≡ coloring_of plus_zero
      (scaled_columns (read_of matrix bits n) n w ω r) (length r) (suc n) rng
  colours_same rng = rw (add-one n) (coloring_same (entry_of matrix bits n r scales) (scaled_columns (read_of matrix bits n) n w ω r) (length r)
      (suc n) entry_same plus_zero rng)

  -- the halving by these colours, from what each call ensures
  pub halved_by_lem : (rng : SplitMix64) (scale x : List Float) (rows : ℕ) (sigma : Float) (v : List Float) (r' : Counted) (directions sweeps : ℕ)
      → scale ≡ scales → rows ≡ n + 1 → ColoredAs x r' (coloring_of plus_zero (entry_of matrix bits n r scale) (length r) rows rng)
      → sigma ≡ sigma_of x → v ≡ halved_to w r x sigma (length r)
      → ◌≡◌ {A = Halved} (record { w = v; rng = r'.rng; directions = directions + r'.directions; sweeps = sweeps + r'.sweeps })
      (halved_by (record { w = w; rng = rng; directions = directions; sweeps = sweeps }) r
      (coloring_of plus_zero (scaled_columns (read_of matrix bits n) n w ω r) (length r) (suc n) rng))
  halved_by_lem rng scale x rows sigma v r' directions sweeps es er c ec ev =
      let same : coloring_of plus_zero (entry_of matrix bits n r scale) (length r) rows rng ≡ coloring_of plus_zero
      (scaled_columns (read_of matrix bits n) n w ω r) (length r) (suc n) rng =
      rw (es, er) (colours_same rng) in
      rw (← same) (rw (ev, ec, c.colours, c.draws, c.directions, c.sweeps))

-- what a colouring counts fits into the tally
module _ {t r : Counted} {x : List Float} (z : Float) (a : ℕ → ℕ → Float) (k n : ℕ) (rng : SplitMix64) (room : Countable t 1) (few : k ≤ 256)
    (c : ColoredAs x r (coloring_of z a k n rng)) where
  pub directions_fit : t.directions + r.directions ≤ 1048576
  directions_fit = omega (arith, room.directions, c.directions, directions_most z a k n rng)

  pub sweeps_fit : t.sweeps + r.sweeps ≤ 1048576
  sweeps_fit = omega (arith, room.sweeps, c.sweeps, sweeps_few z a k n rng)

-- ---- one halving

module _ (matrix : ℕ → ℕ → Float) (n : ℕ) (ω : Float) (rest : List ℕ) (h : Halved) where
  abbrev some : List ℕ
  some = remaining h.w rest

  abbrev colouring : Colored
  colouring = coloring_of plus_zero (scaled_columns matrix n h.w ω some) (length some) (suc n) h.rng

  pub halve_none : length some ≡ 0 → h ≡ halved_once plus_zero matrix n ω rest h
  unfolding halved_once
  halve_none e = rw (eq-eqb (length some) 0 e)

  pub halve_some : (length some ≡ 0 → ⊥) → (k : Halved) → k ≡ halved_by h some colouring → k ≡ halved_once plus_zero matrix n ω rest h
  unfolding halved_once
  halve_some e k g = rw (ne_eqb (length some) 0 e) g
