-- The matrix as it is lent, of doubles or of bits: with the columns chosen in order, each scaled by 1.0, an entry reads as it stands.
use borrow.Author.Tests.{eqb-true}
use Prim.Native.Nat.{ℕ, ◌+◌, ◌*◌, ◌≤◌, ◌<◌}
use mathlib.Core.Path.{◌≡◌, refl, sym, ◌∙◌}
use mathlib.Core.Bool.{Bool, true, false}
use mathlib.Core.List.{List}
use native.Mathlib.Decide.{dec_lt}
use native.Mathlib.Omega.{arith}
use lib.Dec.{T, eqb}
use lib.IntN.{pos}
use lib.ListN.{length, get_or}
use lib.Ieee.{Float, fin, nan, binary64, of_bits, mul, fits}
use lib.Ieee.Scale.{finite}
use Rattle.seq.specs.Choice.{pick}
use Rattle.seq.specs.Lists.{tabulate, repeated}
use Rattle.seq.specs.Sums.{plus_zero, at}
use Rattle.seq.proofs.Filling.{length-tab, get_or-tab, room}
use Rattle.ieee.proofs.Products.{times-one}
use Rattle.ieee.proofs.Division.{unit_is}
use Rattle.chosen.specs.Entries.{entry_of}
use Rattle.chosen.specs.ChosenColumns.{Chosen}
use Rattle.entries.proofs.Reading.{entry_own, entry-under}
use Rattle.ieee.specs.Constants.{one}
use Rattle.colored.specs.Coloring.{coloring_of}
use Rattle.limits.specs.Limits.{bounded}
use Rattle.limits.specs.Matrix.{columns_of}
use Rattle.limits.specs.Votes.{bit_at, bytes_of, votes_of}
use Rattle.limits.specs.Reading.{read_of, Lies, Whole}
use Rattle.limits.proofs.Spare.{whole_lies}
use Rattle.limits.proofs.Bounded.{bounded_at, finite_within}
use Rattle.colorfaults.specs.Discrepancy.{most_entry}
use Rattle.colored.proofs.SameColumns.{coloring_same}
use Rattle.draw.specs.declared.SplitMix64.{SplitMix64}

-- the columns in order, and a scale of 1.0 for each
abbrev pub in_order : ℕ → List ℕ
in_order m = tabulate (λ i. i) m

abbrev pub unscaled : ℕ → List Float
unscaled m = repeated one m

-- x times 1.0
unscaled_is : (x : Float) → T (fits binary64 x) → mul binary64 x one ≡ x
unscaled_is x h = rw unit_is (times-one binary64 x h)

module _ (matrix : List Float) (bits : List ℕ) (m n : ℕ) (area : Whole matrix bits m n) where
  inside : (p : ℕ) → p < m → Lies matrix bits n (get_or (in_order m) p 0)
  inside p h = rw (get_or-tab (λ i. i) m p 0 h) (whole_lies area p h)

  -- what is read is a double
  read_fits : ((i : ℕ) → T (fits binary64 (at matrix i))) → (j i : ℕ) → T (fits binary64 (read_of matrix bits n j i))
  read_fits known j i = go (eqb (length bits) 0)
    where
      vote : (b : Bool) → T (fits binary64 (fin b 1 (pos 0)))
      vote true = unfold fits in tt
      vote false = unfold fits in tt

      go : (t : Bool) → T (fits binary64 (pick t (columns_of matrix n j i) (votes_of bits n j i)))
      go true = known (j * n + i)
      go false = vote (bit_at bits (8 * (j * bytes_of n) + i))

  -- an entry within the bound is finite, a vote is, and so is 1.0 under them
  finite_own : ((i : ℕ) → T (fits binary64 (at matrix i))) → bounded most_entry matrix ≡ true → (p i : ℕ) → p < m → T
      (finite (at (unscaled m) p)) → T (finite (entry_of matrix bits n (in_order m) (unscaled m) p i))
  unfolding of_bits
  finite_own known within p i h t = go (dec_lt i n)
    where
      own : i < n → (t : Bool) → eqb (length bits) 0 ≡ t → T (finite (pick t (columns_of matrix n p i) (votes_of bits n p i)))
      own k true e = finite_within (at matrix (p * n + i)) _ _ _ (bounded_at most_entry matrix within (p * n + i)
          (omega (arith, area.doubles (eqb-true (length bits) 0 e), room p m n h)))
      own k false e = tt

      go : Dec (i < n) → T (finite (entry_of matrix bits n (in_order m) (unscaled m) p i))
      go (yes k) =
          rw (
            entry_own matrix bits n (in_order m) (unscaled m) p i k,
            get_or-tab (λ i. i) m p 0 h,
            get_or-tab (λ i. one) m p nan h,
            unscaled_is (read_of matrix bits n p i) (read_fits known p i),
          )
          (own k (eqb (length bits) 0) refl)
      go (no k) = rw (entry-under matrix bits n (in_order m) (unscaled m) p i (omega arith), get_or-tab (λ i. one) m p nan h) tt

  pub own_chosen : m ≤ 256 → n ≤ 4096 → ((i : ℕ) → T (fits binary64 (at matrix i))) → bounded most_entry matrix ≡ true
      → Chosen matrix bits n (in_order m) (unscaled m) n
  own_chosen few short known within =
      record {
        low = omega arith;
        high = omega arith;
        short = omega arith;
        few = rw (length-tab (λ i. i) m) few;
        paired = length-tab (λ i. one) m ∙ sym (length-tab (λ i. i) m);
        inside = λ p h. inside p (rw (length-tab (λ i. i) m) at h);
        sound = λ p i h t. finite_own known within p i (rw (length-tab (λ i. i) m) at h) t;
      }

  module _ (known : (i : ℕ) → T (fits binary64 (at matrix i))) where
    own_entry : (p i : ℕ) → p < m → i < n → entry_of matrix bits n (in_order m) (unscaled m) p i ≡ read_of matrix bits n p i
    own_entry p i h k =
        entry_own matrix bits n (in_order m) (unscaled m) p i k
        ∙ rw (get_or-tab (λ i. i) m p 0 h, get_or-tab (λ i. one) m p nan h) (unscaled_is (read_of matrix bits n p i) (read_fits known p i))

    -- the colouring of those columns is that of the matrix
    pub own_coloring : (rng : SplitMix64) → coloring_of plus_zero (entry_of matrix bits n (in_order m) (unscaled m)) m n rng
        ≡ coloring_of plus_zero (read_of matrix bits n) m n rng
    own_coloring rng = coloring_same (entry_of matrix bits n (in_order m) (unscaled m)) (read_of matrix bits n) m n own_entry plus_zero rng

module _ (matrix : List Float) (bits : List ℕ) (m n : ℕ) (cols : List ℕ) (scale : List Float) (blocked : List ℕ)
    (area : Whole matrix bits m n) (ordered : cols ≡ in_order m) (ones : scale ≡ unscaled m) (rows : length blocked ≡ n) where
  many : length cols ≡ m
  many = rw ordered (length-tab (λ i. i) m)

  -- what the colouring of those columns asks for
  pub own_asked : (x numbers : List Float) → m ≤ 256 → n ≤ 4096 → ((i : ℕ) → T (fits binary64 (at matrix i))) → bounded most_entry matrix ≡ true
      → length x ≡ m → n + n + n + m * m ≤ length numbers
      → Chosen matrix bits n cols scale (length blocked) × (length x ≡ length cols) ×
      (length blocked + length blocked + length blocked + length cols * length cols ≤ length numbers)
  own_asked x numbers few short known within wide room =
      (rw (ordered, ones, rows) (own_chosen matrix bits m n area few short known within), wide ∙ sym many, rw (rows, many) room)

  -- and what it leaves
  pub own_left : ((i : ℕ) → T (fits binary64 (at matrix i))) → (rng start : SplitMix64) → rng ≡ start
      → coloring_of plus_zero (entry_of matrix bits n cols scale) (length cols) (length blocked) rng ≡ coloring_of plus_zero (read_of matrix bits n) m n start
  own_left known rng start e = rw (rows, many, ordered, ones, e) (own_coloring matrix bits m n area known start)
