-- Sums of magnitudes: never a NaN, never negative, at least each term, and within bounds.
use mathlib.Core.Path.{◌≡◌, refl, sym, ◌∙◌, subst}
use Prim.Native.Nat.{ℕ, zero, suc, ◌+◌, ◌*◌, ◌^◌, ◌≤◌, ◌<◌, min}
use native.Mathlib.Nat.{le_trans, le_of_eq, le-suc, lt_of_le_of_lt, lt-suc_self, zero-mul, suc-mul, one-mul, mul-le-mul_right, add-le-add, eq-or-lt_of_le}
use native.Mathlib.Omega.{arith}
use mathlib.Core.Logic.{◌⊎◌, inl, inr}
use mathlib.Core.Bool.{true, false, true≢false}
use lib.Dec.{T}
use lib.Ieee.{Float, nan, inf, fin, Format, prec, add, fits}
use lib.Ieee.Fits.{add-fits}
use lib.Ieee.Scale.{overflow, finite}
use Rattle.ieee.specs.Units.{sign, mag, is_num}
use Rattle.ieee.specs.Magnitude.{abs_of}
use Rattle.seq.specs.Sums.{sum_from}
use Rattle.ieee.specs.Pass.{sum_up}
use Rattle.ieee.proofs.Units.{mag-le}
use Rattle.ieee.proofs.Ranks.{Number}
use Rattle.ieee.proofs.Ops.{under_cap, at_least, Finite, finite_number, finite_inside, inside_finite, rnd, rnd_mono, rnd_fixed, rnd-exact, add-units}
use Rattle.ieee.proofs.Signs.{mag-nought, nought-finite}

-- ---- a magnitude: a number that is not negative, infinity included
pub record Size (f : Format) (x : Float) : Type 0 where
  pub number : Number f x
  pub plus : sign x ≡ false

pub abs_mag : (f : Format) (x : Float) → mag f (abs_of x) ≡ mag f x
abs_mag f nan = refl
abs_mag f (inf s) = refl
abs_mag f (fin s m e) = refl

pub abs_fits : (f : Format) (x : Float) → T (fits f x) → T (fits f (abs_of x))
unfolding fits
abs_fits f nan h = tt
abs_fits f (inf s) h = tt
abs_fits f (fin s zero e) h = h
abs_fits f (fin s (suc m) e) h = h

pub abs_size : {f : Format} {x : Float} → Number f x → Size f (abs_of x)
abs_size {f} {x} p = record { number = record { held = abs_fits f x p.held; num = go x p.num }; plus = to x }
  where
    go : (x : Float) → T (is_num x) → T (is_num (abs_of x))
    go nan t = absurd t
    go (inf s) t = tt
    go (fin s m e) t = tt

    to : (x : Float) → sign (abs_of x) ≡ false
    to nan = refl
    to (inf s) = refl
    to (fin s m e) = refl

pub abs_finite : {f : Format} {x : Float} → Finite f x → Finite f (abs_of x)
abs_finite {f} {x} p = record { held = abs_fits f x p.held; ends = go x p.ends }
  where
    go : (x : Float) → T (finite x) → T (finite (abs_of x))
    go nan t = absurd t
    go (inf s) t = absurd t
    go (fin s m e) t = tt

-- ---- one addition
pub record Grown (f : Format) (x y z : Float) : Type 0 where
  pub size : Size f z
  pub left : mag f x ≤ mag f z
  pub right : mag f y ≤ mag f z

finite-grown : {f : Format} {x y : Float} → Finite f x → Finite f y → sign x ≡ false → sign y ≡ false → Grown f x y (add f x y)
finite-grown {f} {x} {y} p q s t =
    let r = add-units p q (s ∙ sym t) in
    record {
      size = record { number = record { held = add-fits f x y; num = r.number }; plus = r.signed ∙ t };
      left = le_trans (at_least (overflow f) (mag f x) (rnd f (mag f x + mag f y)) (finite_inside p)
          (le_trans (le_of_eq (sym (rnd_fixed p))) (rnd_mono f (let h : mag f x ≤ mag f x + mag f y = omega arith in h))))
          (le_of_eq (sym r.size_is));
      right = le_trans (at_least (overflow f) (mag f y) (rnd f (mag f x + mag f y)) (finite_inside q)
          (le_trans (le_of_eq (sym (rnd_fixed q))) (rnd_mono f (let h : mag f y ≤ mag f x + mag f y = omega arith in h))))
          (le_of_eq (sym r.size_is));
    }

inf-size : (f : Format) → Size f (inf false)
inf-size f = record { number = record { held = unfold fits in tt; num = tt }; plus = refl }

grown-inf : {f : Format} {x y : Float} → Size f x → Size f y → Grown f x y (inf false)
grown-inf {f} {x} {y} p q = record { size = inf-size f; left = mag-le f x p.number.held; right = mag-le f y q.number.held }

pub grown : {f : Format} {x y : Float} → Size f x → Size f y → Grown f x y (add f x y)
grown {f} {x} {y} p q = go x y p q p.number.num q.number.num p.plus q.plus
  where
    go : (x y : Float) → Size f x → Size f y → T (is_num x) → T (is_num y) → sign x ≡ false → sign y ≡ false → Grown f x y (add f x y)
    go nan y p q a b s t = absurd a
    go (inf true) y p q a b s t = absurd (true≢false s)
    go (inf false) nan p q a b s t = absurd b
    go (inf false) (inf true) p q a b s t = absurd (true≢false t)
    go (inf false) (inf false) p q a b s t = unfold add in grown-inf p q
    go (inf false) (fin u n d) p q a b s t = unfold add in grown-inf p q
    go (fin u m e) nan p q a b s t = absurd b
    go (fin u m e) (inf true) p q a b s t = absurd (true≢false t)
    go (fin u m e) (inf false) p q a b s t = unfold add in grown-inf p q
    go (fin u m e) (fin v n d) p q a b s t = finite-grown (record { held = p.number.held; ends = tt }) (record { held = q.number.held; ends = tt }) s t

fewer : (f : Format) (v : ℕ → Float) (k : ℕ) → ((j : ℕ) → j < suc k → Size f (v j)) → (j : ℕ) → j < k → Size f (v j)
fewer f v k h j l = h j (le_trans l (le-suc k))

pub sum-size : (f : Format) (v : ℕ → Float) (k : ℕ) → ((j : ℕ) → j < k → Size f (v j)) → Size f (sum_up f v k)
unfolding sum_from
sum-size f v zero h = record { number = finite_number (nought-finite f false); plus = refl }
sum-size f v (suc k) h = (grown (sum-size f v k (fewer f v k h)) (h k (lt-suc_self k))).size

-- at least each term
pub sum_ge : (f : Format) (v : ℕ → Float) (k : ℕ) → ((j : ℕ) → j < k → Size f (v j)) → (j : ℕ) → j < k → mag f (v j) ≤ mag f (sum_up f v k)
unfolding sum_from
sum_ge f v zero h j l = absurd (let z : ⊥ = omega arith in z)
sum_ge f v (suc k) h j l = go (eq_or (le_pred l)) (sum_ge f v k (fewer f v k h) j)
  where
    le_pred : suc j ≤ suc k → j ≤ k
    le_pred l = omega arith

    eq_or : j ≤ k → (j ≡ k) ⊎ (j < k)
    eq_or l = eq-or-lt_of_le l

    go : (j ≡ k) ⊎ (j < k) → (j < k → mag f (v j) ≤ mag f (sum_up f v k)) → mag f (v j) ≤ mag f (add f (sum_up f v k) (v k))
    go (inl e) ih = subst (λ (i : ℕ). mag f (v i) ≤ mag f (add f (sum_up f v k) (v k))) (sym e)
        (grown (sum-size f v k (fewer f v k h)) (h k (lt-suc_self k))).right
    go (inr l) ih = le_trans (ih l) (grown (sum-size f v k (fewer f v k h)) (h k (lt-suc_self k))).left

-- zero where every term is zero
none : (o g m : ℕ) → g ≡ 0 → m ≡ min o g → m ≡ 0
none o g m h e = omega arith

pub sum_bound : (f : Format) (v : ℕ → Float) (p k : ℕ) → ((j : ℕ) → j < k → Size f (v j)) → ((j : ℕ) → j < k → mag f (v j) ≤ 2 ^ p)
    → k < 2 ^ prec f → k * 2 ^ p < overflow f → mag f (sum_up f v k) ≤ k * 2 ^ p
unfolding sum_from
sum_bound f v p zero h b few o = le_of_eq (mag-nought f false ∙ sym (zero-mul (2 ^ p)))
sum_bound f v p (suc k) h b few o =
    let less : k * 2 ^ p ≤ suc k * 2 ^ p = mul-le-mul_right (2 ^ p) (le-suc k) in
    let ih = sum_bound f v p k (fewer f v k h) (λ j l. b j (le_trans l (le-suc k))) (le_trans (le-suc (suc k)) few) (lt_of_le_of_lt less o) in
    let s = sum-size f v k (fewer f v k h) in
    let t = h k (lt-suc_self k) in
    let S = inside_finite s.number (lt_of_le_of_lt ih (lt_of_le_of_lt less o)) in
    let c : 2 ^ p ≤ suc k * 2 ^ p = le_trans (le_of_eq (sym (one-mul (2 ^ p)))) (mul-le-mul_right (2 ^ p) (let g : 1 ≤ suc k = omega arith in g)) in
    let W = inside_finite t.number (lt_of_le_of_lt (b k (lt-suc_self k)) (lt_of_le_of_lt c o)) in
    under_cap (overflow f) (suc k * 2 ^ p) (rnd f (mag f (sum_up f v k) + mag f (v k))) (mag f (add f (sum_up f v k) (v k)))
    (le_trans (rnd_mono f (le_trans (add-le-add ih (b k (lt-suc_self k))) (le_of_eq (sym (suc-mul k (2 ^ p)))))) (le_of_eq (rnd-exact f (suc k) p few o)))
    (add-units S W (s.plus ∙ sym t.plus)).size_is
