-- Laws of an entry: within a column it is scaled, under it stands |s|, and of bits each has the scale's square; and one column more of a sum by rows.
use borrow.Author.Tests.{lt-ltb, le-ltb}
use Prim.Native.Nat.{ℕ, ◌+◌, ◌≤◌, ◌<◌}
use mathlib.Core.Path.{◌≡◌, sym}
use mathlib.Core.List.{List}
use lib.Dec.{T}
use lib.ListN.{length, get_or}
use lib.Ieee.{Float, nan, binary64, add, mul, fits}
use Rattle.seq.specs.Lists.{tabulate, repeated}
use Rattle.seq.specs.Sums.{sum_to, at, product}
use Rattle.seq.proofs.Filling.{length-tab, get_or-tab, tab_cong}
use Rattle.seq.proofs.Summing.{sum_more, sum_cong}
use Rattle.ieee.specs.Magnitude.{abs_of}
use Rattle.limits.specs.Reading.{read_of}
use Rattle.reading.proofs.Lent.{votes_square}
use Rattle.chosen.specs.Entries.{entry_of}
use Rattle.chosen.specs.Rows.{row_norms}

module _ (matrix : List Float) (bits : List ℕ) (n : ℕ) (cols : List ℕ) (scale : List Float) (p i : ℕ) where
  pub entry_own : i < n → entry_of matrix bits n cols scale p i ≡ mul binary64 (read_of matrix bits n (get_or cols p 0) i) (at scale p)
  entry_own h = rw (lt-ltb i n h)

  pub entry-under : n ≤ i → entry_of matrix bits n cols scale p i ≡ abs_of (at scale p)
  entry-under h = rw (le-ltb i n h)

-- of bits every row has the same norm
pub same_norms : (z : Float) (matrix : List Float) (bits : List ℕ) (n : ℕ) (cols : List ℕ) (scale : List Float) (l k : ℕ) → 0 < length bits
    → ((p : ℕ) → T (fits binary64 (at scale p)))
    → repeated (sum_to z (product scale scale) l) k ≡ row_norms z (entry_of matrix bits n cols scale) l k
same_norms z matrix bits n cols scale l k some known =
    tab_cong _ _ k (λ i h. sum_cong binary64 z _ _ l (λ p g. sym (votes_square matrix bits n (get_or cols p 0) (at scale p) (known p) some i)))

-- n sums by rows over p columns become those over p + 1 where each row takes one term more
pub one_more : (z : Float) (f : ℕ → ℕ → Float) (acc : List Float) (p n : ℕ)
    → acc ≡ tabulate (λ i. sum_to z (λ q. f q i) p) n
    → tabulate (λ i. add binary64 (at acc i) (f p i)) (length acc) ≡ tabulate (λ i. sum_to z (λ q. f q i) (p + 1)) n
one_more z f acc p n e =
    rw (e, length-tab)
    (tab_cong _ _ n (λ i h.
    rw (get_or-tab (λ j. sum_to z (λ q. f q j) p) n i nan h, sum_more binary64 z (λ q. f q i) p)))
