-- Told between functions: columns whose weights do not differ, and one whose do.
use Rattle.std.specs.Prelude.{ℕ, ◌≤◌, ◌<◌, ◌≡◌, true, false, List, length, Float}
use Rattle.std.specs.Float.{binary64}
use Rattle.std.specs.Float.Ieee.{sub, ne}
use Rattle.seq.specs.Sums.{plus_zero, at}

-- from `from` up to r the weights do not differ; r is past the end only where `from` is
pub record Unmoved (before after : List Float) (from r : ℕ) : Type 0 where
  pub low : from ≤ r
  pub inside : from ≤ length before → r ≤ length before
  pub same : (k : ℕ) → from ≤ k → k < r → ne (sub binary64 (at before k) (at after k)) plus_zero ≡ false

-- at r they do, unless the weights end there
abbrev pub Differs : List Float → List Float → ℕ → Type 0
Differs before after r = r < length before → ne (sub binary64 (at before r) (at after r)) plus_zero ≡ true
