-- Where the columns and their entries stand: sums of the widths of the fields.
use Prim.Native.Nat.{ℕ, ◌+◌, ◌*◌, ◌/◌, ◌%◌, ◌≤◌, ◌<◌}
use native.Mathlib.Nat.{mul-le-mul, mod-lt, div-lt_iff_lt-mul}
use native.Mathlib.Omega.{arith}

-- where column j of at most 32 begins, with at most 64 entries each
pub column_room : (j n : ℕ) → j ≤ 32 → n ≤ 64 → j * (21 + 17 * n) ≤ 35488
column_room j n h g =
    let l : 21 + 17 * n ≤ 1109 = omega arith in
    omega (arith, mul-le-mul h l)

-- an entry of the matrix: its column, its row, and where its line begins
pub record Room (n k : ℕ) : Type 0 where
  pub some : 0 < n
  pub column : k / n < 32
  pub row : k % n < n
  pub line : k / n * (21 + 17 * n) ≤ 35488

pub entry_room : (n k : ℕ) → n ≤ 64 → k < 32 * n → Room n k
entry_room n k h g =
    let p : 0 < n = omega arith in
    let q : k / n < 32 = (div-lt_iff_lt-mul p).1 g in
    record { some = p; column = q; row = mod-lt k p; line = column_room (k / n) n (omega arith) h }
