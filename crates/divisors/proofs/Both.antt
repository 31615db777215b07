-- Laws that both series need beside the table: a power of a product, and which bits are those of a number.
use Prim.Native.Nat.{ℕ, zero, suc, ◌*◌, ◌^◌, ◌≤◌}
use mathlib.Core.Path.{◌≡◌, ap}
use mathlib.Core.Bool.{not}
use native.Mathlib.Nat.{not-le_of_lt, pow-zero, pow-suc}
use native.Mathlib.Omega.{arith}
use lib.Dec.{T, lit<}
use lib.Ieee.{Float, nan, inf, fin, binary64, to_bits, is_nan}

pub mul_pow : (a b k : ℕ) → (a * b) ^ k ≡ a ^ k * b ^ k
mul_pow a b zero = simp pow-zero
mul_pow a b (suc k) = rw (pow-suc (a * b) k, pow-suc a k, pow-suc b k) (omega (arith, ap (λ (x : ℕ). x * (a * b)) (mul_pow a b k)))

-- what has the bits of TAU or smaller ones is no NaN
pub number : (t : Float) → to_bits binary64 t ≤ 0x401921FB54442D18 → T (not (is_nan t))
unfolding to_bits is_nan
number nan h = absurd (not-le_of_lt (lit< tt) h)
number (inf s) h = tt
number (fin s m e) h = tt
