-- A running sum of products of entries and differences of weights, none above 1 in magnitude, is finite: after k columns it is at most 2 k.
use Prim.Native.Nat.{ℕ, zero, suc, ◌+◌, ◌-◌, ◌*◌, ◌^◌, ◌≤◌, ◌<◌}
use mathlib.Core.Path.{◌≡◌, sym, ◌∙◌, subst}
use mathlib.Core.Bool.{Bool, true, false, beq, cond}
use mathlib.Core.List.{List}
use native.Mathlib.Nat.{le_trans, le_of_eq, lt_of_le_of_lt, one-mul, add-mul, zero-mul, add-le-add, mul-le-mul_right}
use native.Mathlib.Omega.{arith}
use lib.Dec.{T, ltb, lit<}
use lib.IntN.{pos}
use lib.Ieee.{Float, nan, inf, fin, Format, binary64, prec, low, fits, le, ne, neg, add, sub, mul}
use lib.Ieee.Fits.{neg-fits, add-fits}
use lib.Ieee.Scale.{overflow, finite}
use Rattle.seq.specs.Choice.{pick}
use Rattle.seq.specs.Sums.{plus_zero, at}
use Rattle.ieee.specs.Magnitude.{abs_of}
use Rattle.ieee.specs.Units.{sign, mag}
use Rattle.ieee.proofs.Ranks.{le→mag}
use Rattle.ieee.proofs.Ops.{Finite, finite_number, inside_finite, rnd, rnd_mono, rnd-exact, under_cap}
use Rattle.ieee.proofs.Signs.{nought_is, nought-finite, mag-nought}
use Rattle.ieee.proofs.Sums.{abs_mag, abs_size}
use Rattle.ieee.proofs.SignedSums.{sum_size, add_rounded}
use Rattle.ieee.proofs.Products.{mul-at-most, mul-finite}
use Rattle.ieee.proofs.Division.{unit_is, unit-mag, unit_number}
use Rattle.limits.proofs.Bounded.{finite_within}
use Rattle.ieee.specs.Constants.{one}
use Rattle.change.specs.Margins.{change_to}

-- a finite value of at most k in magnitude
pub record UpTo (f : Format) (k : ℕ) (x : Float) : Type 0 where
  pub ends : Finite f x
  pub most : mag f x ≤ k * 2 ^ low f

more : {f : Format} {a b : ℕ} {x : Float} → a ≤ b → UpTo f a x → UpTo f b x
more {f} h p = record { ends = p.ends; most = le_trans p.most (mul-le-mul_right (2 ^ low f) h) }

-- ---- sums
size-most : (s t : Bool) (x y : ℕ) → sum_size s x t y ≤ x + y
size-most s t x y = go (beq s t) (ltb x y)
  where
    go : (matrix v : Bool) → cond matrix (x + y) (cond v (y - x) (x - y)) ≤ x + y
    go true v = omega arith
    go false true = omega arith
    go false false = omega arith

module _ {f : Format} {a b : ℕ} {x y : Float} (p : UpTo f a x) (q : UpTo f b y) (few : a + b < 2 ^ prec f) (room : (a + b) * 2 ^ low f < overflow f) where
  add_most : mag f (add f x y) ≤ (a + b) * 2 ^ low f
  add_most =
      let size = le_trans (size-most (sign x) (sign y) (mag f x) (mag f y))
      (le_trans (add-le-add p.most q.most) (le_of_eq (sym (add-mul a b (2 ^ low f))))) in
      under_cap (overflow f) ((a + b) * 2 ^ low f) (rnd f (sum_size (sign x) (mag f x) (sign y) (mag f y))) (mag f (add f x y))
      (le_trans (rnd_mono f size) (le_of_eq (rnd-exact f (a + b) (low f) few room)))
      (add_rounded p.ends q.ends).size_is

  pub add-up : UpTo f (a + b) (add f x y)
  add-up =
      record {
        ends = inside_finite (record { held = add-fits f x y; num = (add_rounded p.ends q.ends).number }) (lt_of_le_of_lt add_most room);
        most = add_most;
      }

-- ---- differences and products
neg-finite : (x : Float) → T (finite x) → T (finite (neg x))
unfolding neg
neg-finite nan h = h
neg-finite (inf s) h = h
neg-finite (fin s m e) h = h

neg-mag : (f : Format) (x : Float) → mag f (neg x) ≡ mag f x
unfolding neg
neg-mag f nan = λ i. 0
neg-mag f (inf s) = λ i. mag f (inf s)
neg-mag f (fin s m e) = λ i. mag f (fin s m e)

neg-up : {f : Format} {a : ℕ} {x : Float} → UpTo f a x → UpTo f a (neg x)
neg-up {f} {a} {x} p =
    record {
      ends = record { held = neg-fits f x p.ends.held; ends = neg-finite x p.ends.ends };
      most = le_trans (le_of_eq (neg-mag f x)) p.most;
    }

sub-up : {f : Format} {a b : ℕ} {x y : Float} → UpTo f a x → UpTo f b y → a + b < 2 ^ prec f → (a + b) * 2 ^ low f < overflow f → UpTo f (a + b) (sub f x y)
unfolding sub
sub-up p q few room = add-up p (neg-up q) few room

mul-up : {f : Format} {b : ℕ} {x y : Float} → UpTo f 1 x → UpTo f b y → UpTo f b (mul f x y)
mul-up {f} p q =
    let h = le_trans p.most (le_of_eq (one-mul (2 ^ low f))) in
    record { ends = mul-finite p.ends q.ends h; most = le_trans (mul-at-most p.ends q.ends h) q.most }

-- ---- doubles: nothing that 256 columns reach overflows
few_digits : (k : ℕ) → k ≤ 512 → k < 2 ^ prec binary64
few_digits k h = lt_of_le_of_lt h (lit< tt)

in_room : (k : ℕ) → k ≤ 512 → k * 2 ^ low binary64 < overflow binary64
in_room k h = lt_of_le_of_lt (mul-le-mul_right (2 ^ low binary64) h) (lit< tt)

-- in [-1, 1]
pub one_up : (x : Float) → T (fits binary64 x) → T (le (abs_of x) one) → UpTo binary64 1 x
one_up x g h =
    let l = subst (λ y. T (le (abs_of x) y)) unit_is h in
    let ends : Finite binary64 x = record { held = g; ends = finite_within x false 1 (pos 0) l } in
    let size = abs_size (finite_number ends) in
    record {
      ends = ends;
      most =
          le_trans (le_of_eq (sym (abs_mag binary64 x)))
          (le_trans (le→mag size.number (unit_number binary64) size.plus (λ i. false) l)
          (le_of_eq (unit-mag binary64 ∙ sym (one-mul (2 ^ low binary64)))));
    }

nothing-up : UpTo binary64 0 plus_zero
nothing-up =
    subst (UpTo binary64 0) (sym nought_is)
    (record { ends = nought-finite binary64 false; most = le_of_eq (mag-nought binary64 false ∙ sym (zero-mul (2 ^ low binary64))) })

-- one more column: a term of at most 2, or none
turn_up : {k : ℕ} {r t : Float} → suc k ≤ 256 → UpTo binary64 (k + k) r → UpTo binary64 2 t → (skip : Bool) → UpTo binary64
    (suc k + suc k) (pick skip (add binary64 r t) r)
turn_up {k} {r} {t} h p q true =
    subst (λ j. UpTo binary64 j (add binary64 r t)) (let e : k + k + 2 ≡ suc k + suc k = omega arith in e)
    (add-up p q (few_digits (k + k + 2) (omega arith)) (in_room (k + k + 2) (omega arith)))
turn_up h p q false = more (omega arith) p

pub change_up : (matrix : ℕ → ℕ → Float) (before after : List Float) (i k : ℕ) → k ≤ 256
    → ((j : ℕ) → j < k → UpTo binary64 1 (matrix j i)) → ((j : ℕ) → j < k → UpTo binary64 1 (at before j)) → ((j : ℕ) → j < k → UpTo binary64 1 (at after j))
    → UpTo binary64 (k + k) (change_to matrix before after i k)
unfolding change_to
change_up matrix before after i zero h e p q = nothing-up
change_up matrix before after i (suc k) h e p q =
    let d : Float = sub binary64 (at before k) (at after k) in
    turn_up h
    (change_up matrix before after i k (omega arith) (λ j l. e j (omega arith)) (λ j l. p j (omega arith)) (λ j l. q j (omega arith)))
    (mul-up (e k (omega arith)) (sub-up (p k (omega arith)) (q k (omega arith)) (few_digits 2 (omega arith)) (in_room 2 (omega arith))))
    (ne d plus_zero)
