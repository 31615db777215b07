-- What a test of the sizes says that refuses nothing, as orders of numbers: each half of it is false.
use borrow.Author.Tests.{ltb-false}
use Prim.Native.Nat.{ℕ, ◌≤◌}
use mathlib.Core.Path.{◌≡◌, refl}
use mathlib.Core.Bool.{Bool, true, false, ◌||◌}
use lib.Dec.{ltb}
use Rattle.limits.specs.Limits.{too_large, numbers_needed, indices_needed, scratch_short}

-- of two tests neither holds
pub neither : (s t : Bool) → (s || t) ≡ false → (s ≡ false) × (t ≡ false)
neither false t h = (refl, h)
neither true t h = (h, cc)

-- at most 256 columns and 4096 rows
pub record Small (m n : ℕ) : Type 0 where
  pub columns : m ≤ 256
  pub rows : n ≤ 4096

pub small : (m n : ℕ) → too_large m n ≡ false → Small m n
small m n h =
    let e = neither (ltb 256 m) (ltb 4096 n) h in
    record { columns = ltb-false 256 m e.0; rows = ltb-false 4096 n e.1 }

-- a scratch that is long enough
pub record Enough (m n numbers indices : ℕ) : Type 0 where
  pub floats : numbers_needed m n ≤ numbers
  pub words : indices_needed m n ≤ indices

pub enough : (m n numbers indices : ℕ) → scratch_short m n numbers indices ≡ false → Enough m n numbers indices
enough m n numbers indices h =
    let e = neither (ltb numbers (numbers_needed m n)) (ltb indices (indices_needed m n)) h in
    record { floats = ltb-false numbers (numbers_needed m n) e.0; words = ltb-false indices (indices_needed m n) e.1 }
