-- Polynomials as lists of coefficients, valued at any weights: sums, products, and a comparison coefficient by coefficient.
use Prim.Native.Nat.{ℕ, suc, ◌+◌, ◌-◌, ◌*◌, ◌≤◌, ◌<◌}
use mathlib.Core.Path.{◌≡◌, sym, ap}
use mathlib.Core.List.{List, [], ◌∷◌}
use native.Mathlib.Nat.{mul-le-mul_right, mul-le-mul_left, mul-zero, zero-mul, add-zero, zero-add, add-suc, suc-add}
use native.Mathlib.Omega.{arith}
use lib.ListN.{length}

unfoldable pub dot : (ℕ → ℕ) → ℕ → List ℕ → ℕ
dot w i [] = 0
dot w i (c ∷ p) = c * w i + dot w (suc i) p

unfoldable pub scale : ℕ → List ℕ → List ℕ
scale c [] = []
scale c (a ∷ p) = (c * a) ∷ scale c p

unfoldable pub plus : List ℕ → List ℕ → List ℕ
plus [] q = q
plus (a ∷ p) [] = a ∷ p
plus (a ∷ p) (b ∷ q) = (a + b) ∷ plus p q

unfoldable pub less : List ℕ → List ℕ → List ℕ
less [] q = []
less (a ∷ p) [] = a ∷ p
less (a ∷ p) (b ∷ q) = (a - b) ∷ less p q

unfoldable pub times : List ℕ → List ℕ → List ℕ
unfolding plus scale
times [] q = []
times (c ∷ p) q = plus (scale c q) (0 ∷ times p q)

pub dot-scale : (w : ℕ → ℕ) (i c : ℕ) (p : List ℕ) → dot w i (scale c p) ≡ c * dot w i p
unfolding dot scale
dot-scale w i c [] = sym (mul-zero c)
dot-scale w i c (a ∷ p) = omega (arith, dot-scale w (suc i) c p)

pub dot-plus : (w : ℕ → ℕ) (i : ℕ) (p q : List ℕ) → dot w i (plus p q) ≡ dot w i p + dot w i q
unfolding dot plus
dot-plus w i [] q = sym (zero-add (dot w i q))
dot-plus w i (a ∷ p) [] = sym (add-zero (dot w i (a ∷ p)))
dot-plus w i (a ∷ p) (b ∷ q) = omega (arith, dot-plus w (suc i) p q)

pub dot-less : (w : ℕ → ℕ) (i : ℕ) (p q : List ℕ) → dot w i p ≤ dot w i q + dot w i (less p q)
unfolding dot less
dot-less w i [] q = omega arith
dot-less w i (a ∷ p) [] = omega arith
dot-less w i (a ∷ p) (b ∷ q) =
    let one : a ≤ b + (a - b) = omega arith in
    omega (arith, mul-le-mul_right (w i) one, dot-less w (suc i) p q)

pub dot_grows : (w v : ℕ → ℕ) (c m : ℕ) → ((j : ℕ) → j < m → w j ≤ v j * c) → (i : ℕ) (p : List ℕ) → i + length p ≤ m → dot w i p ≤ dot v i p * c
unfolding dot
dot_grows w v c m h i [] l = omega arith
dot_grows w v c m h i (a ∷ p) l =
    let here : i < m = omega arith in
    omega (arith, mul-le-mul_left a (h i here), dot_grows w v c m h (suc i) p (omega arith))

module _ (w v u : ℕ → ℕ) (m k : ℕ) (h : (i j : ℕ) → i < m → j < k → w i * v j ≡ u (i + j)) where
  row : (i j : ℕ) (q : List ℕ) → i < m → j + length q ≤ k → w i * dot v j q ≡ dot u (i + j) q
  unfolding dot
  row i j [] hi hj = mul-zero (w i)
  row i j (b ∷ q) hi hj =
      let one : w i * v j ≡ u (i + j) = h i j hi (omega arith) in
      let rest : w i * dot v (suc j) q ≡ dot u (suc (i + j)) q = rw add-suc at (row i (suc j) q hi (omega arith)) in
      omega (arith, ap (λ (x : ℕ). b * x) one)

  pub dot-times : (i j : ℕ) (p q : List ℕ) → i + length p ≤ m → j + length q ≤ k → dot w i p * dot v j q ≡ dot u (i + j) (times p q)
  unfolding dot times
  dot-times i j [] q hi hj = zero-mul (dot v j q)
  dot-times i j (c ∷ p) q hi hj =
      let one = row i j q (omega arith) hj in
      let rest : dot w (suc i) p * dot v j q ≡ dot u (suc (i + j)) (times p q) = rw suc-add at (dot-times (suc i) j p q (omega arith) hj) in
      rw (dot-plus u (i + j) (scale c q) (0 ∷ times p q), dot-scale u (i + j) c q)
      (omega (arith, ap (λ (x : ℕ). c * x) one))
