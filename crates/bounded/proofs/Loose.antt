-- A basis of few vectors, whatever rows it was made from. Each entry of a vector that it takes is at most 2, since a square that underflows is off by
-- half a unit and the norm's square is a unit at least. So a projection on at most 60 entries makes none more than 2 ^ 8 times as large, and 120 of
-- them overflow nothing.
use mathlib.Core.Path.{◌≡◌, refl, sym, ap, ◌∙◌, subst}
use mathlib.Core.Logic.{◌⊎◌, inl, inr}
use Prim.Native.Nat.{ℕ, zero, suc, ◌+◌, ◌*◌, ◌^◌, ◌≤◌, ◌<◌, min, zero-le}
use native.Mathlib.Nat.{le_refl, le_trans, le_of_eq, le_of_lt, lt_of_le_of_lt, add-le-add, mul-le-mul}
use native.Mathlib.Nat.{mul-le-mul_right, mul-le-mul_left, le_of_mul-le-mul_right, mul-pos, one-mul, eq-zero-or-pos}
use native.Mathlib.Omega.{arith}
use borrow.Author.Tests.{ltb-true}
use mathlib.Core.Bool.{Bool, true, false, not, ◌&&◌, true≢false}
use mathlib.Core.List.{List, [], ◌∷◌, ◌++◌}
use lib.Dec.{T, ltb, lit≤, lit<}
use lib.Pow.{pow_pos, pow-add, pow_mono}
use lib.ListN.{length, get_or}
use lib.Ieee.{Float, nan, inf, fin, binary64, low, unlike, sub, mul, div, eq, le}
use lib.Ieee.Fits.{mul-fits, sub-fits, div-fits}
use lib.Ieee.Scale.{finite, grid, overflow}
use Rattle.seq.specs.Choice.{pick}
use Rattle.seq.specs.Sums.{plus_zero, at}
use Rattle.seq.proofs.Choosing.{both}
use Rattle.seq.proofs.Filling.{length-tab, get_or-tab}
use Rattle.ieee.specs.Units.{sign, mag}
use Rattle.ieee.proofs.Grid.{grid-le, grid-exact}
use Rattle.ieee.proofs.Ranks.{mag→le}
use Rattle.ieee.proofs.Ops.{Finite, finite_inside, inside_finite, rnd, rnd-exact, rnd_mono, under_cap, div-units}
use Rattle.ieee.proofs.Signs.{nought-finite, mag-nought}
use Rattle.ieee.proofs.Sums.{Size, sum-size, sum_ge}
use Rattle.ieee.proofs.Products.{mul-units}
use Rattle.ieee.proofs.SignedSums.{sum_size}
use Rattle.root.specs.Root.{sqrt_of}
use Rattle.root.proofs.RootResults.{sqrt_size}
use Rattle.linear.specs.Vectors.{dot_of, norm_of}
use Rattle.basis.specs.Basis.{less_at, stripped, pass_to, projected, drop_tolerance, taken, over_at, unit, inserted}
use Rattle.reaching.specs.Whole.{About}
use Rattle.reaching.proofs.Close.{mul_about}
use Rattle.reaching.proofs.Divide.{sub_rounded}
use Rattle.bounded.proofs.Within.{Within, mul_within, sum_within, size-le, K}
use Rattle.bounded.proofs.Dot.{dot}
use Rattle.bounded.proofs.Squares.{root_le}
use Rattle.bounded.proofs.Roots.{sqrt_rooted}
use Rattle.bounded.proofs.Taken.{zero_sqrt, tolerance_ends, tolerance_plus}
use Rattle.bounded.proofs.Bases.{norm_is, dot_is, longer, pushed}

-- ---- one operation at a time

-- a product of at most m * 2 ^ i and 2 ^ j units, for a small m
times_within : {x y : Float} (m i j p : ℕ) → m < 2 ^ 53 → m * 2 ^ p < overflow binary64 → i + j ≡ p + 1074 → Within binary64 (m * 2 ^ i) x
    → Within binary64 (2 ^ j) y → Within binary64 (m * 2 ^ p) (mul binary64 x y)
times_within {x} {y} m i j p few o e a b =
    let f = binary64 in
    let r = mul-units a.ends b.ends in
    let X = mag f x in
    let Y = mag f y in
    let pw : 2 ^ i * 2 ^ j ≡ 2 ^ p * K = sym (pow-add 2 i j) ∙ ap (λ (n : ℕ). 2 ^ n) e ∙ pow-add 2 p 1074 in
    let h : X * Y * K ≤ m * 2 ^ p * (K * K) =
    le_trans (mul-le-mul_right K (mul-le-mul a.most b.most)) (le_of_eq (shape m (2 ^ i) (2 ^ j) (2 ^ p) K pw)) in
    let b : mag f (mul f x y) ≤ m * 2 ^ p =
    under_cap (overflow f) (m * 2 ^ p) (grid f (X * Y) (K * K)) (mag f (mul f x y))
    (le_trans (grid-le f (X * Y) (K * K) (m * 2 ^ p) K (mul-pos (pow_pos (low f)) (pow_pos (low f))) (pow_pos (low f)) h)
    (le_of_eq (rnd-exact f m p few o))) r.size_is in
    record { ends = inside_finite (record { held = mul-fits f x y; num = r.number }) (lt_of_le_of_lt b o); most = b }
  where
    shape : (m a b p k : ℕ) → a * b ≡ p * k → m * a * b * k ≡ m * p * (k * k)
    shape m a b p k e = let g = ap (λ (z : ℕ). m * z * k) e in omega arith

fits-to : (p : ℕ) → p ≤ 2090 → 60 * 2 ^ p < overflow binary64
fits-to p h = lt_of_le_of_lt (mul-le-mul_left 60 (pow_mono h)) (lit< tt)

-- a vector of the basis: entries of at most 2
pub record Loose (l : ℕ) (q : List Float) : Type 0 where
  pub wide : length q ≡ l
  pub each : (j : ℕ) → j < l → Within binary64 (2 ^ 1075) (at q j)

-- a vector that is projected: entries of at most 2 ^ e
pub record Grown (l e : ℕ) (v : List Float) : Type 0 where
  pub wide : length v ≡ l
  pub each : (j : ℕ) → j < l → Within binary64 (2 ^ (1074 + e)) (at v j)

one_power : {n : ℕ} {x : Float} → Within binary64 n x → Within binary64 (1 * n) x
one_power {n} p = record { ends = p.ends; most = le_trans p.most (le_of_eq (sym (one-mul n))) }

-- v - c q, at an entry: 1 + 240 is at most 256
entry_within : {c v q : Float} (e : ℕ) → e ≤ 1000 → Within binary64 (60 * 2 ^ (1075 + e)) c → Within binary64 (2 ^ (1074 + e)) v → Within binary64 (2 ^ 1075) q
    → Within binary64 (2 ^ (1074 + (e + 8))) (sub binary64 v (mul binary64 c q))
entry_within {c} {v} {q} e h C B Q =
    let f = binary64 in
    let m = mul f c q in
    let M = times_within 60 (1075 + e) 1075 (1076 + e) (lit< tt) (fits-to (1076 + e) (let g : 1076 + e ≤ 2090 = omega arith in g))
    (let g : 1075 + e + 1075 ≡ 1076 + e + 1074 = omega arith in g) C Q in
    let r = sub_rounded B.ends M.ends in
    let n = sum_size (sign v) (mag f v) (not (sign m)) (mag f m) in
    let four : 2 ^ (1076 + e) ≡ 4 * 2 ^ (1074 + e) = ap (λ (i : ℕ). 2 ^ i) (let g : 1076 + e ≡ 2 + (1074 + e) = omega arith in g) ∙ pow-add 2 2 (1074 + e) in
    let eight : 2 ^ (1074 + (e + 8)) ≡ 256 * 2 ^ (1074 + e) = ap (λ (i : ℕ). 2 ^ i)
    (let g : 1074 + (e + 8) ≡ 8 + (1074 + e) = omega arith in g) ∙ pow-add 2 8 (1074 + e) in
    let most : n ≤ 2 ^ (1074 + (e + 8)) =
    le_trans (size-le (sign v) (not (sign m)) (mag f v) (mag f m))
    (le_trans (add-le-add B.most (le_trans M.most (le_of_eq (ap (λ (i : ℕ). 60 * i) four)))) (le_trans (room (2 ^ (1074 + e))) (le_of_eq (sym eight)))) in
    let o : 2 ^ (1074 + (e + 8)) < overflow f = lt_of_le_of_lt (pow_mono (let g : 1074 + (e + 8) ≤ 2090 = omega arith in g)) (lit< tt) in
    let exact : rnd f (2 ^ (1074 + (e + 8))) ≡ 2 ^ (1074 + (e + 8)) =
    ap (rnd f) (sym (one-mul (2 ^ (1074 + (e + 8))))) ∙ rnd-exact f 1 (1074 + (e + 8)) (lit< tt)
    (lt_of_le_of_lt (le_of_eq (one-mul (2 ^ (1074 + (e + 8))))) o) ∙ one-mul (2 ^ (1074 + (e + 8))) in
    let b : mag f (sub f v m) ≤ 2 ^ (1074 + (e + 8)) = under_cap (overflow f) (2 ^ (1074 + (e + 8))) (rnd f n) (mag f (sub f v m))
    (le_trans (rnd_mono f most) (le_of_eq exact)) r.size_is in
    record { ends = inside_finite (record { held = sub-fits f v m; num = r.number }) (lt_of_le_of_lt b o); most = b }
  where
    room : (a : ℕ) → a + 60 * (4 * a) ≤ 256 * a
    room a = omega arith

-- ---- projections

product_within : {x y : Float} (e : ℕ) → e ≤ 1000 → Within binary64 (2 ^ 1075) x → Within binary64 (2 ^ (1074 + e)) y
    → Within binary64 (2 ^ (1075 + e)) (mul binary64 x y)
product_within e h p q =
    let r = times_within 1 1075 (1074 + e) (1075 + e) (lit< tt)
    (le_trans (let g : suc (1 * 2 ^ (1075 + e)) ≤ suc (60 * 2 ^ (1075 + e)) = one_sixty (2 ^ (1075 + e)) in g)
    (fits-to (1075 + e) (let g : 1075 + e ≤ 2090 = omega arith in g)))
    (let g : 1075 + (1074 + e) ≡ 1075 + e + 1074 = omega arith in g) (one_power p) q in
    record { ends = r.ends; most = le_trans r.most (le_of_eq (one-mul (2 ^ (1075 + e)))) }
  where
    one_sixty : (n : ℕ) → suc (1 * n) ≤ suc (60 * n)
    one_sixty n = omega arith

pub strip-grown : {l : ℕ} {q v : List Float} (e : ℕ) → l ≤ 60 → e ≤ 1000 → Loose l q → Grown l e v → Grown l (e + 8) (stripped plus_zero q v)
unfolding stripped
strip-grown {l} {q} {v} e h g p r =
    let c = dot_of plus_zero q v in
    let few : l < 2 ^ 53 = lt_of_le_of_lt h (lit< tt) in
    let space : l * 2 ^ (1075 + e) < overflow binary64 = lt_of_le_of_lt (mul-le-mul_right (2 ^ (1075 + e)) h)
    (fits-to (1075 + e) (let k : 1075 + e ≤ 2090 = omega arith in k)) in
    let d = sum_within binary64 (λ (j : ℕ). mul binary64 (at q j) (at v j)) (1075 + e) l (λ j i. product_within e g (p.each j i) (r.each j i)) few space in
    let C : Within binary64 (60 * 2 ^ (1075 + e)) c =
    subst (Within binary64 (60 * 2 ^ (1075 + e))) (sym (dot_is q v p.wide))
    (record { ends = d.ends; most = le_trans d.most (mul-le-mul_right (2 ^ (1075 + e)) h) }) in
    record {
      wide = length-tab (less_at c q v) (length v) ∙ r.wide;
      each = λ j i.
          subst (Within binary64 (2 ^ (1074 + (e + 8)))) (sym
          (get_or-tab (less_at c q v) (length v) j nan (subst (λ (n : ℕ). j < n) (sym r.wide) i))) (entry_within e g C (r.each j i) (p.each j i));
    }

-- at most l vectors with such entries
pub record Few (l : ℕ) (basis : List (List Float)) : Type 0 where
  pub few : length basis ≤ l
  pub each : (i : ℕ) → i < length basis → Loose l (get_or basis i [])

pub pass_grown : {l : ℕ} {basis : List (List Float)} {v : List Float} (e k : ℕ) → l ≤ 60 → k ≤ length basis → e + 8 * k ≤ 1008 → Few l basis
    → Grown l e v → Grown l (e + 8 * k) (pass_to plus_zero basis v k)
unfolding pass_to
pass_grown {l} {basis} {v} e zero h g r p s = subst (λ (n : ℕ). Grown l n v) (let q : e ≡ e + 8 * 0 = omega arith in q) s
pass_grown {l} {basis} {v} e (suc k) h g r p s =
    subst (λ (n : ℕ). Grown l n (stripped plus_zero (get_or basis k []) (pass_to plus_zero basis v k))) (let q : e + 8 * k + 8 ≡ e + 8 * suc k = omega arith in q)
    (strip-grown (e + 8 * k) h (let q : e + 8 * k ≤ 1000 = omega arith in q) (p.each k g)
    (pass_grown e k h (let q : k ≤ length basis = omega arith in q) (let q : e + 8 * k ≤ 1008 = omega arith in q) p s))

-- both passes: 960 bits at most
pub projected-grown : {l : ℕ} {basis : List (List Float)} {v : List Float} (e : ℕ) → l ≤ 60 → e ≤ 32 → Few l basis → Grown l e v
    → Grown l (e + 8 * length basis + 8 * length basis) (projected plus_zero basis v)
unfolding projected
projected-grown {l} {basis} {v} e h g p s =
    let n = length basis in
    let few = p.few in
    pass_grown (e + 8 * n) n h (le_refl n) (let q : e + 8 * n + 8 * n ≤ 1008 = omega arith in q) p
    (pass_grown e n h (le_refl n) (let q : e + 8 * n ≤ 1008 = omega arith in q) p s)

-- ---- insertion

-- squares that are not negative, whether they overflow or not
self : (s : Bool) → unlike s s ≡ false
self true = refl
self false = refl

square-size : {x : Float} → Finite binary64 x → Size binary64 (mul binary64 x x)
square-size {x} p = let r = mul-units p p in record { number = record { held = mul-fits binary64 x x; num = r.number }; plus = r.signed ∙ self (sign x) }

dot-size : {v : ℕ → Float} {k : ℕ} → ((j : ℕ) → j < k → Finite binary64 (v j)) → Size binary64 (dot v v k)
dot-size {v} {k} p = sum-size binary64 (λ (j : ℕ). mul binary64 (v j) (v j)) k (λ j l. square-size (p j l))

-- W is an entry, t its computed square, d the computed sum, R the root of that
half_off : (W t d R K N : ℕ) → 64 ≤ N → W * W * N ≤ t * K * N + W * W + K * N → t ≤ d → 0 < d → 7 * (d * K) ≤ 8 * (R * R) → W * W ≤ 2 * R * (2 * R)
half_off W t d R K N n h l s r =
    le_of_mul-le-mul_right
    (let a = mul-le-mul_right (K * N) l in
    let b = mul-le-mul_right (K * N) s in
    let c = mul-le-mul_right N r in
    let e = mul-le-mul_right (W * W) n in
    let g : W * W * N ≤ 2 * R * (2 * R) * N = omega arith in
    g) (let z : 0 < N = omega arith in z)

short : (o n m : ℕ) → m < o → m ≡ min o n → m ≡ n
short o n m h e = omega arith

two-units : grid binary64 2 1 ≡ 2 * K
two-units = grid-exact binary64 2 1 2 1074 (lit< tt) (lit< tt) (lit< tt) refl

times-one : (a b : ℕ) → a ≤ 2 * b → a * 1 ≤ 2 * b
times-one a b h = omega arith

-- an entry over the norm, where the sum of squares is finite and not 0
over-finite : (w : ℕ → Float) (k j : ℕ) → ((i : ℕ) → i < k → Finite binary64 (w i)) → j < k → T (finite (dot w w k)) → 0 < mag binary64 (dot w w k)
    → Within binary64 (2 ^ 1075) (div binary64 (w j) (sqrt_of (dot w w k)))
over-finite w k j p l t s =
    let f = binary64 in
    let d = dot w w k in
    let z = dot-size p in
    let D : Finite f d = record { held = z.number.held; ends = t } in
    let r = sqrt_rooted d (record { fin = D; plus = z.plus; some = s }) (le_of_lt (finite_inside D)) in
    let R = mag f (sqrt_of d) in
    let W = mag f (w j) in
    let ge : mag f (mul f (w j) (w j)) ≤ mag f d = sum_ge f (λ (i : ℕ). mul f (w i) (w i)) k (λ i m. square-size (p i m)) j l in
    let is : mag f (mul f (w j) (w j)) ≡ grid f (W * W) (K * K) =
    short (overflow f) (grid f (W * W) (K * K)) (mag f (mul f (w j) (w j))) (lt_of_le_of_lt ge (finite_inside D)) (mul-units (p j l) (p j l)).size_is in
    let A : About (2 ^ 53) (W * W) K (mag f (mul f (w j) (w j))) = subst (About (2 ^ 53) (W * W) K) (sym is) (mul_about f (W * W)) in
    let two : W ≤ 2 * R = root_le W (2 * R) (half_off W (mag f (mul f (w j) (w j))) (mag f d) R K (2 ^ 53) (lit≤ tt) A.under ge s r.root.near_enough) in
    let q = div-units (p j l) r.root.positive in
    let m : mag f (div f (w j) (sqrt_of d)) ≤ 2 ^ 1075 =
    under_cap (overflow f) (2 ^ 1075) (grid f W R) (mag f (div f (w j) (sqrt_of d)))
    (le_trans (grid-le f W R 2 1 r.root.positive.some (lit< tt) (times-one W R two)) (le_trans (le_of_eq two-units) (lit≤ tt))) q.size_is in
    record { ends = inside_finite (record { held = div-fits f (w j) (sqrt_of d); num = q.number }) (lt_of_le_of_lt m (lit< tt)); most = m }

-- where it is infinite the quotient is 0
over_infinite : (x d : Float) → Finite binary64 x → Size binary64 d → finite d ≡ false → Within binary64 (2 ^ 1075) (div binary64 x (sqrt_of d))
unfolding sqrt_of div
over_infinite nan d p s e = absurd p.ends
over_infinite (inf t) d p s e = absurd p.ends
over_infinite (fin t m i) nan p s e = absurd s.number.num
over_infinite (fin t m i) (inf true) p s e = absurd (true≢false s.plus)
over_infinite (fin t m i) (inf false) p s e =
    record { ends = nought-finite binary64 (unlike t false); most = le_trans (le_of_eq (mag-nought binary64 (unlike t false))) zero-le }
over_infinite (fin t m i) (fin u n d) p s e = absurd (true≢false e)

contradict : (b : Bool) → T (not b) → T b → ⊥
contradict true n y = n
contradict false n y = y

-- what is left is not 0 where the basis takes it
rest_some : (v w : Float) → Size binary64 v → Finite binary64 v → Size binary64 w → T (not (le (sqrt_of w) (mul binary64 drop_tolerance (sqrt_of v))))
    → 0 < mag binary64 w
rest_some v w sv fv sw u = go (eq-zero-or-pos (mag binary64 w))
  where
    o : Float
    o = sqrt_of v

    root_ends : (mag binary64 v ≡ 0) ⊎ (0 < mag binary64 v) → Finite binary64 o
    root_ends (inl z) = subst (Finite binary64) (zero_sqrt sv.number z) fv
    root_ends (inr s) = (sqrt_rooted v (record { fin = fv; plus = sv.plus; some = s }) (le_of_lt (finite_inside fv))).root.positive.fin

    O : Finite binary64 o
    O = root_ends (eq-zero-or-pos (mag binary64 v))

    go : (mag binary64 w ≡ 0) ⊎ (0 < mag binary64 w) → 0 < mag binary64 w
    go (inr s) = s
    go (inl z) =
        let m = mul binary64 drop_tolerance o in
        let M = mul-units tolerance_ends O in
        let S : sign m ≡ false = M.signed ∙ ap (λ (i : Bool). unlike i (sign o)) tolerance_plus ∙ ap (unlike false) (sqrt_size v sv).plus in
        let q : T (le w m) = mag→le sw.number (record { held = mul-fits binary64 drop_tolerance o; num = M.number }) sw.plus S
        (le_trans (le_of_eq z) zero-le) in
        absurd (contradict (le (sqrt_of w) m) u (subst (λ (x : Float). T (le x m)) (zero_sqrt sw.number z) q))

-- a row of finite entries of at most 2 ^ 32
pub record WideRow (l : ℕ) (v : List Float) : Type 0 where
  pub wide : length v ≡ l
  pub each : (j : ℕ) → j < l → Within binary64 (2 ^ 1106) (at v j)

lent-square : {x : Float} → Within binary64 (2 ^ 1106) x → Within binary64 (2 ^ 1138) (mul binary64 x x)
lent-square p = mul_within 1106 1106 1138 (lit≤ tt) (lit< tt) p p

pub taken_loose : {l : ℕ} {basis : List (List Float)} {v : List Float} → l ≤ 60 → Few l basis → WideRow l v → taken plus_zero basis v ≡ true
    → Loose l (unit plus_zero (projected plus_zero basis v))
unfolding taken unit
taken_loose {l} {basis} {v} h p r t =
    let f = binary64 in
    let w = projected plus_zero basis v in
    let s = projected-grown 32 h (lit≤ tt) p (record { wide = r.wide; each = r.each }) in
    let ends : (j : ℕ) → j < l → Finite f (at w j) = λ j i. (s.each j i).ends in
    let e = dot (at w) (at w) l in
    let d = dot (at v) (at v) l in
    let few : l < 2 ^ 53 = lt_of_le_of_lt h (lit< tt) in
    let D = sum_within f (λ (j : ℕ). mul f (at v j) (at v j)) 1138 l (λ j i. lent-square (r.each j i)) few
    (lt_of_le_of_lt (mul-le-mul_right (2 ^ 1138) h) (lit< tt)) in
    let u : T (not (le (sqrt_of e) (mul f drop_tolerance (sqrt_of d)))) =
    subst (λ (x : Float). T (not (le x (mul f drop_tolerance (sqrt_of d))))) (norm_is w s.wide)
    (subst (λ (x : Float). T (not (le (norm_of plus_zero w) (mul f drop_tolerance x)))) (norm_is v r.wide)
    (subst T (sym (both (not (eq (norm_of plus_zero v) plus_zero)) (not (le (norm_of plus_zero w) (mul f drop_tolerance (norm_of plus_zero v)))) t).1) tt)) in
    let some : 0 < mag f e = rest_some d e (dot-size (λ j i. (r.each j i).ends)) D.ends (dot-size ends) u in
    record {
      wide = length-tab (over_at (norm_of plus_zero w) w) (length w) ∙ s.wide;
      each = λ j i.
          subst (Within f (2 ^ 1075)) (sym (get_or-tab (over_at (norm_of plus_zero w) w) (length w) j nan (subst (λ (n : ℕ). j < n) (sym s.wide) i)
          ∙ ap (λ (n : Float). div f (at w j) n) (norm_is w s.wide)))
          (by_size (at w) j i ends some (finite e) refl);
    }
  where
    by_size : (x : ℕ → Float) (j : ℕ) → j < l → ((i : ℕ) → i < l → Finite binary64 (x i)) → 0 < mag binary64 (dot x x l) → (b : Bool) → finite (dot x x l) ≡ b
        → Within binary64 (2 ^ 1075) (div binary64 (x j) (sqrt_of (dot x x l)))
    by_size x j i ends some true e = over-finite x l j ends i (subst T (sym e) tt) some
    by_size x j i ends some false e = over_infinite (x j) (dot x x l) (ends j i) (dot-size ends) e

pub inserted_few : {l : ℕ} {basis : List (List Float)} {v : List Float} → l ≤ 60 → Few l basis → WideRow l v → Few l (inserted plus_zero l basis v)
unfolding inserted
inserted_few {l} {basis} {v} h p r = go (ltb (length basis) l && taken plus_zero basis v) refl
  where
    go : (t : Bool) → (ltb (length basis) l && taken plus_zero basis v) ≡ t → Few l (pick t (basis ++ (unit plus_zero (projected plus_zero basis v) ∷ [])) basis)
    go true e =
        let b = both (ltb (length basis) l) (taken plus_zero basis v) e in
        let q = pushed (Loose l) basis (unit plus_zero (projected plus_zero basis v)) p.each (taken_loose h p r b.1) in
        record { few = le_trans (le_of_eq (longer basis (unit plus_zero (projected plus_zero basis v)))) (ltb-true (length basis) l b.0); each = q }
    go false e = p
