-- What the basis takes: a row with an entry of at least 2 ^ -480, of which more than 1e-10 is left, is left with squares that do not underflow.
use mathlib.Core.Path.{◌≡◌, refl, sym, ap, ◌∙◌, subst}
use Prim.Native.Nat.{ℕ, zero, suc, ◌+◌, ◌*◌, ◌^◌, ◌≤◌, ◌<◌, min, zero-le}
use native.Mathlib.Nat.{le_trans, le_of_eq, le_of_lt, le-suc, lt-suc_self, le_of_mul-le-mul_right}
use native.Mathlib.Nat.{mul-le-mul_right, mul-le-mul_left, mul-pos, mul_assoc, eq-zero-or-pos}
use native.Mathlib.Omega.{arith}
use mathlib.Core.Logic.{◌⊎◌, inl, inr}
use mathlib.Core.Bool.{Bool, true, false, not, ◌||◌}
use lib.Dec.{T, ltb, lit≤, lit<}
use lib.Pow.{pow_pos}
use lib.Ieee.{Float, fin, binary64, low, unlike, add, mul, div, le, lt, eq, ne, fits, of_bits}
use lib.Ieee.Fits.{mul-fits}
use lib.Ieee.Scale.{grid, overflow}
use Rattle.seq.specs.Sums.{plus_zero, sum_from}
use Rattle.ieee.specs.Units.{sign, mag}
use Rattle.ieee.proofs.Grid.{grid-le}
use Rattle.ieee.proofs.Ranks.{Number, mag→le, le→mag, lt_not_le}
use Rattle.ieee.proofs.Ops.{Finite, finite_number, Positive, rnd, rnd-exact, grid_zero, add-units}
use Rattle.ieee.proofs.Signs.{nought, nonzero_is}
use Rattle.ieee.proofs.Sums.{Size, sum-size, sum_ge}
use Rattle.ieee.proofs.Products.{mul-units}
use Rattle.root.specs.Root.{sqrt_of}
use Rattle.root.proofs.RootCases.{zero_root}
use Rattle.basis.specs.Basis.{drop_tolerance}
use Rattle.bounded.proofs.Within.{Within, K, Vec, fewer}
use Rattle.bounded.proofs.Dot.{dot}
use Rattle.bounded.proofs.Squares.{squared, root_le}
use Rattle.bounded.proofs.Project.{Short}
use Rattle.bounded.proofs.Norm.{Root, own, own_size, dot_within, normalised}
use Rattle.bounded.proofs.Roots.{Rooted, sqrt_rooted}

at_least : (o g n m : ℕ) → n ≤ g → n ≤ o → m ≡ min o g → n ≤ m
at_least o g n m h l e = omega arith

-- a product of at least a and b units is at least 2 ^ p of them, a * b being at least 2 ^ p * K
pub mul-least : {x y : Float} (p : ℕ) → Finite binary64 x → Finite binary64 y → 1 * 2 ^ p < overflow binary64
    → 2 ^ p * K ≤ mag binary64 x * mag binary64 y → 2 ^ p ≤ mag binary64 (mul binary64 x y)
mul-least {x} {y} p a b o h =
    let f = binary64 in
    let X = mag f x in
    let Y = mag f y in
    let e : rnd f (2 ^ p) ≡ 2 ^ p = ap (rnd f) (one (2 ^ p)) ∙ rnd-exact f 1 p (lit< tt) o ∙ sym (one (2 ^ p)) in
    at_least (overflow f) (grid f (X * Y) (K * K)) (2 ^ p) (mag f (mul f x y))
    (le_trans (le_of_eq (sym e)) (grid-le f (2 ^ p) K (X * Y) (K * K) (pow_pos (low f)) (mul-pos (pow_pos (low f)) (pow_pos (low f)))
    (le_trans (le_of_eq (sym (mul_assoc (2 ^ p) K K))) (mul-le-mul_right K h))))
    (le_trans (le_of_eq (one (2 ^ p))) (le_of_lt o)) (mul-units a b).size_is
  where
    one : (n : ℕ) → n ≡ 1 * n
    one n = omega arith

-- an entry of at least 2 ^ -480
pub norm_least : (v : ℕ → Float) (k j : ℕ) → Vec 40 k v → j < k → 2 ^ 594 ≤ mag binary64 (v j) → 2 ^ 114 ≤ mag binary64 (dot v v k)
norm_least v k j p l h =
    let f = binary64 in
    let a = (p.each j l).ends in
    le_trans (mul-least 114 a a (lit< tt) (le_trans (lit≤ tt) (squared (2 ^ 594) (mag f (v j)) h)))
    (sum_ge f (λ (i : ℕ). mul f (v i) (v i)) k (λ i m. own_size p i m) j l)

eighth : (x y n m k : ℕ) → n ≤ m → 7 * (m * k) ≤ 8 * y → 8 * x ≤ 7 * (n * k) → x ≤ y
eighth x y n m k h l g = let a = mul-le-mul_right k h in omega arith

pub root_least : {d o : Float} → Root d o → 2 ^ 114 ≤ mag binary64 d → 2 ^ 593 ≤ mag binary64 o
root_least {d} {o} p h =
    root_le (2 ^ 593) (mag binary64 o) (eighth (2 ^ 593 * 2 ^ 593) (mag binary64 o * mag binary64 o) (2 ^ 114) (mag binary64 d) K h p.near_enough (lit≤ tt))

lt-le : (m r : Float) → T (lt m r) → T (le m r)
unfolding le
lt-le m r t = go (lt m r) (eq m r) t
  where
    go : (a b : Bool) → T a → T (a || b)
    go true b t = tt
    go false b t = absurd t

pub tolerance_ends : Finite binary64 drop_tolerance
unfolding of_bits fits
tolerance_ends = record { held = tt; ends = tt }

pub tolerance_plus : sign drop_tolerance ≡ false
unfolding of_bits
tolerance_plus = refl

tolerance_least : 2 ^ 559 * K ≤ mag binary64 drop_tolerance * 2 ^ 593
unfolding of_bits
tolerance_least = lit≤ tt

-- what is left is more than 1e-10 of the whole, by the program's test: at least 2 ^ -515
left_long : {o r : Float} → Positive binary64 o → 2 ^ 593 ≤ mag binary64 o → Size binary64 r → T (not (le r (mul binary64 drop_tolerance o)))
    → 2 ^ 559 ≤ mag binary64 r
left_long {o} {r} p h q t =
    let f = binary64 in
    let m = mul f drop_tolerance o in
    let M : Number f m = record { held = mul-fits f drop_tolerance o; num = (mul-units tolerance_ends p.fin).number } in
    let S : sign m ≡ false = (mul-units tolerance_ends p.fin).signed ∙ ap (λ (s : Bool). unlike s (sign o)) tolerance_plus ∙ ap (unlike false) p.plus in
    let b : 2 ^ 559 ≤ mag f m = mul-least 559 tolerance_ends p.fin (lit< tt) (le_trans tolerance_least (mul-le-mul_left (mag f drop_tolerance) h)) in
    le_trans b (le→mag M q.number S q.plus (lt-le m r (subst T (sym (lt_not_le M q.number)) t)))

-- ---- where a norm is 0

pub zero_eq : {x : Float} → Number binary64 x → mag binary64 x ≡ 0 → eq x nought ≡ true
unfolding ne
zero_eq {x} p h = flip (eq x nought) (nonzero_is p ∙ ap (ltb 0) h)
  where
    flip : (b : Bool) → not b ≡ false → b ≡ true
    flip true e = refl
    flip false e = sym e

pub zero_sqrt : {x : Float} → Number binary64 x → mag binary64 x ≡ 0 → x ≡ sqrt_of x
zero_sqrt {x} p h = zero_root x (zero_eq p h)

none : (o g m : ℕ) → g ≡ 0 → m ≡ min o g → m ≡ 0
none o g m h e = omega arith

-- the sum of the squares of zeros
all_zero : (v : ℕ → Float) (k : ℕ) → Vec 40 k v → k ≤ 256 → ((j : ℕ) → j < k → mag binary64 (v j) ≡ 0) → mag binary64 (dot v v k) ≡ 0
unfolding sum_from
all_zero v zero p h z = refl
all_zero v (suc k) p h z =
    let f = binary64 in
    let t : ℕ → Float = λ (j : ℕ). mul f (v j) (v j) in
    let l = lt-suc_self k in
    let ih = all_zero v k (fewer p) (le_trans (le-suc k) h) (λ j i. z j (le_trans i (le-suc k))) in
    let s = sum-size f t k (λ j i. own_size p j (le_trans i (le-suc k))) in
    let r = add-units (dot_within v k (le_trans (le-suc k) h) (fewer p)).ends (own p k l).ends (s.plus ∙ sym (own_size p k l).plus) in
    let m : mag f (t k) ≡ 0 = none (overflow f) (grid f (mag f (v k) * mag f (v k)) (K * K)) (mag f (t k))
    (ap (λ (n : ℕ). grid f (n * mag f (v k)) (K * K)) (z k l) ∙ nothing (mag f (v k))) (mul-units (p.each k l).ends (p.each k l).ends).size_is in
    none (overflow f) (rnd f (mag f (dot v v k) + mag f (t k))) (mag f (add f (dot v v k) (t k)))
    (ap (λ (n : ℕ). rnd f (n + mag f (t k))) ih ∙ ap (λ (n : ℕ). rnd f (0 + n)) m ∙ grid_zero f (2 ^ low f) (pow_pos (low f))) r.size_is
  where
    nothing : (n : ℕ) → grid binary64 (0 * n) (K * K) ≡ 0
    nothing n = ap (λ (m : ℕ). grid binary64 m (K * K)) (let e : 0 * n ≡ 0 = omega arith in e) ∙ grid_zero binary64 (K * K) (lit< tt)

-- ---- rows of finite entries of at most 2 ^ 32: 0, or with an entry of at least 2 ^ -480

pub record Spot (k : ℕ) (v : ℕ → Float) : Type 0 where
  pub place : ℕ
  pub under : place < k
  pub there : 2 ^ 594 ≤ mag binary64 (v place)

pub record Blank (k : ℕ) (v : ℕ → Float) : Type 0 where
  pub each : (j : ℕ) → j < k → mag binary64 (v j) ≡ 0

row_vec : {v : ℕ → Float} {k : ℕ} → ((j : ℕ) → j < k → Within binary64 (2 ^ 1106) (v j)) → Vec 40 k v
row_vec h = record { each = λ j l. record { ends = (h j l).ends; most = le_trans (h j l).most (lit≤ tt) } }

-- ---- what is stored, of a row v whose rest is w

pub dot-size : {v : ℕ → Float} {k : ℕ} → Vec 40 k v → Size binary64 (dot v v k)
dot-size {v} {k} p = sum-size binary64 (λ (j : ℕ). mul binary64 (v j) (v j)) k (λ j l. own_size p j l)

positive : {v : ℕ → Float} {k : ℕ} → k ≤ 256 → Vec 40 k v → 0 < mag binary64 (dot v v k) → Positive binary64 (dot v v k)
positive {v} {k} h p s = record { fin = (dot_within v k h p).ends; plus = (dot-size p).plus; some = s }

dot_rooted : {v : ℕ → Float} {k : ℕ} → k ≤ 256 → Vec 40 k v → 0 < mag binary64 (dot v v k) → Rooted (dot v v k) (sqrt_of (dot v v k))
dot_rooted {v} {k} h p s = sqrt_rooted (dot v v k) (positive h p s) (le_trans (dot_within v k h p).most (le_trans (mul-le-mul_right (2 ^ 1154) h) (lit≤ tt)))

units_20 : (R d k : ℕ) → 2 ^ 22 * k ≤ R * R → 7 * (R * R) ≤ 8 * (d * k) → 0 < k → 2 ^ 20 ≤ d
units_20 R d k h l P = le_of_mul-le-mul_right (let w : 2 ^ 20 * k ≤ d * k = omega arith in w) P

absurd_eq : {b : Bool} → T (not b) → b ≡ true → ⊥
absurd_eq {b} t e = subst (λ (c : Bool). T (not c)) e t

pub taken_short : (k : ℕ) (v w : ℕ → Float) → k ≤ 256 → ((j : ℕ) → j < k → Within binary64 (2 ^ 1106) (v j)) → Spot k v ⊎ Blank k v → Vec 40 k w
    → T (not (eq (sqrt_of (dot v v k)) plus_zero)) → T (not (le (sqrt_of (dot w w k)) (mul binary64 drop_tolerance (sqrt_of (dot v v k)))))
    → Short k (λ (j : ℕ). div binary64 (w j) (sqrt_of (dot w w k)))
unfolding of_bits
taken_short k v w h p c b t u =
    let f = binary64 in
    let a = row_vec p in
    let d = dot v v k in
    let e = dot w w k in
    let o = sqrt_of d in
    let r = sqrt_of e in
    let d_some : 2 ^ 114 ≤ mag f d = by-spot a c in
    let O : Rooted d o = dot_rooted h a (le_trans (lit≤ tt) d_some) in
    let o_least = root_least O.root d_some in
    let e-some : 0 < mag f e = by-rest O.root.positive (eq-zero-or-pos (mag f e)) in
    let R : Rooted e r = dot_rooted h b e-some in
    let r-least : 2 ^ 559 ≤ mag f r = left_long O.root.positive o_least
    (record { number = finite_number R.root.positive.fin; plus = R.root.positive.plus }) u in
    let units : 2 ^ 20 ≤ mag f e = units_20 (mag f r) (mag f e) K (le_trans (lit≤ tt) (squared (2 ^ 559) (mag f r) r-least)) R.not_above (pow_pos (low f)) in
    normalised w k r h b units R.root
  where
    by-spot : Vec 40 k v → Spot k v ⊎ Blank k v → 2 ^ 114 ≤ mag binary64 (dot v v k)
    by-spot a (inl s) = norm_least v k s.place a s.under s.there
    by-spot a (inr z) =
        let n = (dot-size a).number in
        let e = all_zero v k a h z.each in
        absurd (absurd_eq t (ap (λ (x : Float). eq x nought) (sym (zero_sqrt n e)) ∙ zero_eq n e))

    by-rest : Positive binary64 (sqrt_of (dot v v k)) → (mag binary64 (dot w w k) ≡ 0) ⊎ (0 < mag binary64 (dot w w k)) → 0 < mag binary64 (dot w w k)
    by-rest o (inr s) = s
    by-rest o (inl z) =
        let f = binary64 in
        let e = dot w w k in
        let s = dot-size b in
        let m = mul f drop_tolerance (sqrt_of (dot v v k)) in
        let M = mul-units tolerance_ends o.fin in
        let S : sign m ≡ false = M.signed ∙ ap (λ (i : Bool). unlike i (sign (sqrt_of (dot v v k)))) tolerance_plus ∙ ap (unlike false) o.plus in
        let q : T (le e m) = mag→le s.number (record { held = mul-fits f drop_tolerance (sqrt_of (dot v v k)); num = M.number }) s.plus S
        (le_trans (le_of_eq z) zero-le) in
        absurd (contradict (le (sqrt_of e) m) u (subst (λ (x : Float). T (le x m)) (zero_sqrt s.number z) q))
      where
        contradict : (b : Bool) → T (not b) → T b → ⊥
        contradict true n y = n
        contradict false n y = y
