-- What a walk holds within a phase, and how its coordinates freeze.
use Rattle.std.specs.Prelude.{ℕ, zero, suc, ◌+◌, Bool, ◌&&◌, List, ltb, length, set, Float}
use Rattle.std.specs.Float.{binary64}
use Rattle.std.specs.Float.Ieee.{of_bits, sub, le}
use Rattle.seq.specs.Choice.{pick}
use Rattle.seq.specs.Lists.{repeated}
use Rattle.seq.specs.Sums.{plus_zero, at}
use Rattle.ieee.specs.Magnitude.{abs_of, signum_of}
use Rattle.basis.specs.Basis.{inserted}
use Rattle.ieee.specs.Constants.{one}
use Rattle.chosen.specs.Rows.{row_of}
use Rattle.order.specs.Order.{worst_to}
use Rattle.seq.specs.Marks.{is_set}
use Rattle.draw.specs.declared.SplitMix64.{SplitMix64}

-- The coordinates of the phase's l columns, which of them are free, how many froze in this phase, A x,
-- which rows are blocked, the basis that directions are projected out of, and the generator.
pub record Walk : Type 0 where
  pub x : List Float
  pub free : List ℕ
  pub frozen : ℕ
  pub ax : List Float
  pub blocked : List ℕ
  pub basis : List (List Float)
  pub rng : SplitMix64

-- the vector with 1.0 at p
abbrev pub axis : ℕ → ℕ → List Float
axis l p = set (repeated plus_zero l) p one

-- 1 - 1e-9, the difference rounded: a coordinate of this magnitude freezes
abbrev pub freeze_limit : Float
freeze_limit = sub binary64 one (of_bits binary64 0x3E11_2E0B_E826_D695)

-- a free coordinate that is near enough to 1 or -1
abbrev pub freezes : Walk → ℕ → Bool
freezes w p = is_set w.free p && le freeze_limit (abs_of (at w.x p))

-- the basis with row i blocked: of n rows and l columns
abbrev pub blocking : Float → (ℕ → ℕ → Float) → ℕ → ℕ → List (List Float) → List (List Float)
blocking z a l i basis = inserted z l basis (row_of a l i)

-- Coordinate p snapped and frozen, with its axis in the basis; then the worst row that is not blocked is blocked,
-- where there is one and the basis is short of l.
unfoldable pub frozen_at : Float → (ℕ → ℕ → Float) → ℕ → ℕ → Walk → ℕ → Walk
frozen_at z a l n w p =
    let basis : List (List Float) = inserted z l w.basis (axis l p) in
    let row : ℕ = worst_to w.ax w.blocked n n in
    let room : Bool = ltb row n && ltb (length basis) l in
    record {
      x = set w.x p (signum_of (at w.x p));
      free = set w.free p 0;
      frozen = w.frozen + 1;
      ax = w.ax;
      blocked = pick room (set w.blocked row 1) w.blocked;
      basis = pick room (blocking z a l row basis) basis;
      rng = w.rng;
    }

-- the walk after the coordinates below k were looked at, in order
unfoldable pub freeze_to : Float → (ℕ → ℕ → Float) → ℕ → ℕ → Walk → ℕ → Walk
freeze_to z a l n w zero = w
freeze_to z a l n w (suc k) =
    let v : Walk = freeze_to z a l n w k in
    pick (freezes v k) (frozen_at z a l n v k) v
