-- A step over whole numbers: x and the direction's entry g in units of which 1.0 has K, and the four results, each rounded.
use Rattle.std.specs.Prelude.{ℕ, ◌+◌, ◌-◌, ◌*◌, ◌≤◌, Bool, cond, ltb}
use Rattle.std.specs.Bool.{beq}

-- g is a / c but for 1 / N of it
pub record Near (N a c g : ℕ) : Type 0 where
  pub above : g * c * N ≤ a * N + a
  pub under : a * N ≤ g * c * N + a

-- g is a / c but for 1 / N of it and one unit: a quotient may be subnormal
pub record About (N a c g : ℕ) : Type 0 where
  pub above : g * c * N ≤ a * N + a + c * N
  pub under : a * N ≤ g * c * N + a + c * N

-- the size of a sum: of X with the sign s, and Y with the sign t
abbrev pub sum_size : Bool → ℕ → Bool → ℕ → ℕ
sum_size s X t Y = cond (beq s t) (X + Y) (cond (ltb X Y) (Y - X) (X - Y))

-- what is left from x, with the sign s and X units, to the 1 or -1 that g leads to, with the sign t
abbrev pub left_over : Bool → ℕ → Bool → ℕ → ℕ
left_over t K s X = cond (beq t s) (K - X) (K + X)

-- The four roundings of a step: D is what is left, Q is D over g, P is Q times g, and R is the size of x and P together.
pub record Step (N K : ℕ) (s : Bool) (X : ℕ) (t : Bool) (G D Q P R : ℕ) : Type 0 where
  pub difference : Near N (left_over t K s X) 1 D
  pub quotient : About N (D * K) G Q
  pub product : Near N (Q * G) K P
  pub sum : Near N (sum_size s X t P) 1 R
