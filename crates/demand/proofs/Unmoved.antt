-- The change of weights from themselves is +0.0: each difference of finite weights is a zero, and is skipped. And every change is a double.
use Prim.Native.Nat.{ℕ, zero, suc, ◌*◌, ◌-◌, ◌<◌, min}
use mathlib.Core.Path.{◌≡◌, refl, ap, ◌∙◌}
use mathlib.Core.Bool.{Bool, true, false, not}
use mathlib.Core.List.{List}
use native.Mathlib.Omega.{arith}
use native.Mathlib.Nat.{mul-pos}
use lib.Dec.{T, ltb}
use lib.ListN.{length}
use lib.Ieee.{Float, nan, inf, fin, binary64, neg, add, sub, mul, ne, sum, round, up, down, fits, of_bits, is_nan, lt}
use lib.Ieee.Fits.{round-fits, add-fits, down_pos}
use lib.Ieee.Scale.{finite, overflow}
use borrow.Author.Tests.{le-ltb}
use Rattle.seq.specs.Choice.{pick}
use Rattle.seq.specs.Sums.{plus_zero, at}
use Rattle.ieee.specs.Magnitude.{max_abs_to, abs_of, larger_of}
use Rattle.change.specs.Margins.{change_to, max_change}
use Rattle.ieee.specs.Units.{mag}
use Rattle.ieee.proofs.Grid.{rounded}
use Rattle.ieee.proofs.Ops.{grid_zero}
use Rattle.ieee.proofs.Signs.{nought, nonzero_is}
use Rattle.ieee.proofs.Sums.{abs_fits}
use Rattle.ieee.proofs.Results.{larger_fits}

-- nothing is left of equal magnitudes with unlike signs
cancels : (s : Bool) (a c : ℕ) → sum binary64 s a (not s) a c ≡ round binary64 false 0 c
unfolding sum
cancels true a c = rw (le-ltb a a (omega arith)) (ap (λ (z : ℕ). round binary64 false z c) (let e : a - a ≡ 0 = omega arith in e))
cancels false a c = rw (le-ltb a a (omega arith)) (ap (λ (z : ℕ). round binary64 false z c) (let e : a - a ≡ 0 = omega arith in e))

at-least-nothing : (o : ℕ) → min o 0 ≡ 0
at-least-nothing o = omega arith

nothing : (c : ℕ) → 0 < c → ne (round binary64 false 0 c) nought ≡ false
nothing c h =
    let r = rounded binary64 false 0 c in
    let e : mag binary64 (round binary64 false 0 c) ≡ 0 = r.size_is ∙ ap (min (overflow binary64)) (grid_zero binary64 c h) ∙ at-least-nothing
    (overflow binary64) in
    nonzero_is (record { held = round-fits binary64 false 0 c; num = r.number }) ∙ ap (ltb 0) e

pub itself : (x : Float) → T (finite x) → ne (sub binary64 x x) plus_zero ≡ false
unfolding sub add neg of_bits
itself nan h = absurd h
itself (inf s) h = absurd h
itself (fin s m e) h =
    ap (λ (z : Float). ne z nought) (cancels s (m * up e * down e) (down e * down e)) ∙ nothing (down e * down e) (mul-pos (down_pos e) (down_pos e))

pub unmoved : (matrix : ℕ → ℕ → Float) (w : List Float) (i k : ℕ) → ((j : ℕ) → j < k → T (finite (at w j))) → change_to matrix w w i k ≡ plus_zero
unfolding change_to
unmoved matrix w i zero h = refl
unmoved matrix w i (suc k) h =
    rw (itself (at w k) (h k (omega arith))) (unmoved matrix w i k (λ j l. h j (omega arith)))

largest_nothing : (v : ℕ → Float) → ((i : ℕ) → v i ≡ plus_zero) → (k : ℕ) → max_abs_to v k ≡ plus_zero
unfolding max_abs_to larger_of of_bits is_nan lt
largest_nothing v h zero = refl
largest_nothing v h (suc k) = rw (largest_nothing v h k, h k)

pub no_change : (matrix : ℕ → ℕ → Float) (n : ℕ) (w : List Float) → ((j : ℕ) → j < length w → T (finite (at w j))) → max_change matrix (length w) n w w
    ≡ plus_zero
unfolding max_change
no_change matrix n w h = largest_nothing (λ i. change_to matrix w w i (length w)) (λ i. unmoved matrix w i (length w) h) n

-- every change is a double
change_fits : (matrix : ℕ → ℕ → Float) (v w : List Float) (i k : ℕ) → T (fits binary64 (change_to matrix v w i k))
unfolding change_to of_bits
change_fits matrix v w i zero = unfold fits in tt
change_fits matrix v w i (suc k) = go (ne (sub binary64 (at v k) (at w k)) plus_zero) (change_fits matrix v w i k)
  where
    go : (t : Bool) → T (fits binary64 (change_to matrix v w i k))
        → T (fits binary64 (pick t (add binary64 (change_to matrix v w i k) (mul binary64 (matrix k i) (sub binary64 (at v k) (at w k))))
        (change_to matrix v w i k)))
    go true h = add-fits binary64 (change_to matrix v w i k) (mul binary64 (matrix k i) (sub binary64 (at v k) (at w k)))
    go false h = h

largest_fits : (v : ℕ → Float) → ((i : ℕ) → T (fits binary64 (v i))) → (k : ℕ) → T (fits binary64 (max_abs_to v k))
unfolding max_abs_to of_bits
largest_fits v h zero = unfold fits in tt
largest_fits v h (suc k) = larger_fits binary64 (max_abs_to v k) (abs_of (v k)) (largest_fits v h k) (abs_fits binary64 (v k) (h k))

pub moved-fits : (matrix : ℕ → ℕ → Float) (m n : ℕ) (v w : List Float) → T (fits binary64 (max_change matrix m n v w))
unfolding max_change
moved-fits matrix m n v w = largest_fits (λ i. change_to matrix v w i m) (λ i. change_fits matrix v w i m) n
