-- A bit that is not set is 0, and a column of a whole matrix lies in it.
use Prim.Native.Nat.{ℕ, zero, suc, ◌+◌, ◌*◌, ◌≤◌, ◌<◌}
use mathlib.Core.Path.{◌≡◌, refl}
use mathlib.Core.Bool.{not}
use mathlib.Core.List.{List}
use native.Mathlib.Nat.{mul-le-mul_right}
use native.Mathlib.Omega.{arith}
use lib.Dec.{eqb}
use lib.Ieee.{Float}
use Rattle.seq.proofs.Filling.{room}
use Rattle.limits.specs.Votes.{bytes_of}
use Rattle.limits.specs.Reading.{Lies, Whole}

pub clear_bit : (v : ℕ) → v < 2 → eqb v 0 ≡ not (eqb v 1)
clear_bit zero h = refl
clear_bit (suc zero) h = refl
clear_bit (suc (suc v)) h = absurd (omega arith)

-- column j of m, of n bits each, lies in their bytes
pub column_below : (j m n : ℕ) → j < m → m ≤ 256 → j * bytes_of n + bytes_of n ≤ m * bytes_of n × (m * bytes_of n ≤ 256 * bytes_of n)
column_below j m n h k =
    let l : (j + 1) * bytes_of n ≤ m * bytes_of n = mul-le-mul_right (bytes_of n) (omega arith) in
    (omega (arith, l), mul-le-mul_right (bytes_of n) k)

-- of a whole matrix every column lies in it
pub whole_lies : {matrix : List Float} {bits : List ℕ} {m n : ℕ} → Whole matrix bits m n → (j : ℕ) → j < m → Lies matrix bits n j
whole_lies {matrix} {bits} {m} {n} w j h =
    record {
      doubles = λ e. rw (w.doubles e) (room j m n h);
      votes = λ g. rw (w.votes g) (room j m (bytes_of n) h);
    }
