-- A law of one column more: a block of margins over j columns becomes that over j + 1.
use Prim.Native.Nat.{ℕ, ◌+◌}
use mathlib.Core.Path.{◌≡◌}
use mathlib.Core.List.{List}
use lib.ListN.{length}
use lib.Ieee.{Float, nan, binary64, mul}
use Rattle.seq.specs.Lists.{tabulate}
use Rattle.seq.specs.Sums.{plus_zero, at}
use Rattle.seq.proofs.Filling.{length-tab, get_or-tab, tab_cong}
use Rattle.seq.proofs.Summing.{sum_more}
use Rattle.turned.specs.Turned.{margin_at}
use Rattle.rows.specs.Blocks.{plus_rows}

module _ (matrix : ℕ → ℕ → Float) where
  -- a block of margins takes the column j
  pub margins-more : (w : List Float) (from j l : ℕ) (block : List Float)
      → block ≡ tabulate (λ i. margin_at matrix j w (from + i)) l
      → tabulate (plus_rows matrix j from (at w j) block) (length block)
      ≡ tabulate (λ i. margin_at matrix (j + 1) w (from + i)) l
  margins-more w from j l block e =
      rw (e, length-tab (λ i. margin_at matrix j w (from + i)) l)
      (tab_cong _ _ l (λ i h.
      rw (
        get_or-tab (λ i. margin_at matrix j w (from + i)) l i nan h,
        sum_more binary64 plus_zero (λ q. mul binary64 (matrix q (from + i)) (at w q)) j,
      )))
