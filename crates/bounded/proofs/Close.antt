-- Two differences of whole numbers that are equal but for a bound: how a signed value is written, as a part above zero less a part below.
use Prim.Native.Nat.{ℕ, ◌+◌, ◌≤◌}
use native.Mathlib.Omega.{arith}

-- ---- p - n and q - m differ by e at most
pub record Close (e p n q m : ℕ) : Type 0 where
  pub over : p + m ≤ q + n + e
  pub low_by : q + n ≤ p + m + e

pub close_trans : {e d p n q m r t : ℕ} → Close e p n q m → Close d q m r t → Close (e + d) p n r t
close_trans {e} {d} {p} {n} {q} {m} {r} {t} a b =
    record { over = let x = a.over in let y = b.over in omega arith; low_by = let x = a.low_by in let y = b.low_by in omega arith }
