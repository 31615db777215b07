-- A step gets somewhere: the coordinate whose quotient is the step reaches the freezing limit, with each of the four operations rounded.
use mathlib.Core.Path.{◌≡◌, refl, sym, ap, ◌∙◌, subst}
use Prim.Native.Nat.{ℕ, ◌+◌, ◌-◌, ◌*◌, ◌^◌, ◌≤◌, ◌<◌, min}
use native.Mathlib.Nat.{le_trans, le_of_eq, le_of_lt, lt_of_le_of_lt, lt_of_lt_of_le, mul-le-mul_right}
use native.Mathlib.Omega.{arith}
use mathlib.Core.Bool.{Bool, true, false, not, cond, beq}
use lib.IntN.{pos}
use lib.Dec.{T, ltb, ltb→lt, lit≤}
use lib.Pow.{pow_pos}
use lib.Ieee.{Float, nan, inf, fin, Format, binary64, prec, low, unlike, neg, add, sub, mul, div, fits, lt, le, ne, of_bits}
use lib.Ieee.Fits.{add-fits, sub-fits, mul-fits, div-fits}
use lib.Ieee.Scale.{grid, overflow, finite}
use Rattle.ieee.specs.Units.{sign, mag}
use Rattle.ieee.specs.Magnitude.{abs_of, signum_of}
use Rattle.ieee.proofs.Grid.{Rounded}
use Rattle.ieee.proofs.Ranks.{Number, lt-rank, mag→le}
use Rattle.ieee.proofs.Ops.{Finite, finite_number, finite_inside, inside_finite, rnd}
use Rattle.ieee.proofs.Signs.{nonzero, nonzero_is}
use Rattle.ieee.proofs.Sums.{abs_size, abs_mag}
use Rattle.ieee.proofs.Division.{unit-mag}
use Rattle.ieee.proofs.Products.{mul-units}
use Rattle.ieee.proofs.SignedSums.{sum_sign, add_rounded}
use Rattle.reaching.specs.Whole.{Near, About, sum_size, left_over}
use Rattle.reaching.specs.Reaching.{limit, Free, Reached}
use Rattle.reaching.proofs.Whole.{Short, product, left-most, left-least, left_is, left-sign, arrives, step_reaches}
use Rattle.reaching.proofs.Close.{about}
use Rattle.reaching.proofs.Divide.{div_any, sub_rounded, rnd_near, mul_near}

-- the limit is a double above 0, and short of 1 by 2 ^ -30 of it at least
record Limit (l : Float) : Type 0 where
  number : Number binary64 l
  plus : sign l ≡ false
  far : mag binary64 l * 2 ^ 30 + 2 ^ 1074 ≤ 2 ^ 1074 * 2 ^ 30

the_limit : Limit limit
unfolding sub add neg of_bits fits
the_limit = record { number = record { held = tt; num = tt }; plus = refl; far = lit≤ tt }

-- 1.0 with g's sign, which is `signum_of g` where g is a number
abbrev side : Float → Float
side g = fin (sign g) 1 (pos 0)

abbrev quotient : Float → Float → Float
quotient x g = div binary64 (sub binary64 (side g) x) g

abbrev moved : Float → Float → Float → Float
moved x q g = add binary64 x (mul binary64 q g)

-- ---- sizes, over whole numbers: no result is subnormal, none overflows
half_of : (d D : ℕ) → Near (2 ^ 53) d 1 D → d ≤ 2 * D
half_of d D h = let x = h.under in omega arith

twice_of : (d D : ℕ) → Near (2 ^ 53) d 1 D → D ≤ 2 * d
twice_of d D h = let x = h.above in omega arith

left_large : (M K X L d : ℕ) → X < L → M * 2 ^ 30 ≤ K → L * 2 ^ 30 + K ≤ K * 2 ^ 30 → K - X ≤ d → M ≤ d
left_large M K X L d x k l h = omega arith

below_one : (K L : ℕ) → L * 2 ^ 30 + K ≤ K * 2 ^ 30 → L ≤ K
below_one K L h = omega arith

far_enough : (K L : ℕ) → L * 2 ^ 30 + K ≤ K * 2 ^ 30 → L * 2 ^ 53 + 18 * K ≤ K * 2 ^ 53
far_enough K L h = omega arith

normal_left : (d : ℕ) → 2 ^ 74 ≤ d → 2 ^ 52 ≤ d
normal_left d h = omega arith

large_diff : (d D : ℕ) → 2 ^ 74 ≤ d → d ≤ 2 * D → 2 ^ 73 ≤ D
large_diff d D h k = omega arith

-- D is at least K / 2 ^ 31, and 2 ^ 50 G at most K * K: so the product is no subnormal
large_left : (K X L d D : ℕ) → X < L → L * 2 ^ 30 + K ≤ K * 2 ^ 30 → K - X ≤ d → d ≤ 2 * D → K ≤ D * 2 ^ 31
large_left K X L d D x l h k = omega arith

normal_prod : (D K G T : ℕ) → K ≤ D * 2 ^ 31 → 2 ^ 73 ≤ D → G * 2 ^ 50 ≤ K * K → D * K * 2 ^ 53 ≤ T * 2 ^ 53 + D * K + G * 2 ^ 53 → 2 ^ 52 * K ≤ T
normal_prod D K G T h l g u =
    let x = mul-le-mul_right K h in
    let y = mul-le-mul_right K l in
    omega arith

sum-most : (s g : Bool) (X P K : ℕ) → X < K → P ≤ 5 * K → sum_size s X g P ≤ 6 * K
sum-most s g X P K x p = go (beq s g) (ltb X P)
  where
    go : (u v : Bool) → cond u (X + P) (cond v (P - X) (X - P)) ≤ 6 * K
    go true v = omega arith
    go false true = omega arith
    go false false = omega arith

half-sum : (K E : ℕ) → Short (2 ^ 53) 17 K E → K ≤ 2 * E
half-sum K E p = let x = p.by in omega arith

normal_sum : (K E : ℕ) → 2 ^ 53 ≤ K → K ≤ 2 * E → 2 ^ 52 ≤ E
normal_sum K E k h = omega arith

small_enough : (K E R o : ℕ) → 0 < K → E ≤ 6 * K → R ≤ 2 * E → 16 * K ≤ o → R < o
small_enough K E R o k e r h = omega arith

six : (K d : ℕ) → d ≤ 2 * K → d ≤ 6 * K
six K d h = omega arith

five : (K P o : ℕ) → 0 < K → P ≤ 5 * K → 16 * K ≤ o → P < o
five K P o k h l = omega arith

under : (o n m : ℕ) → n < o → m ≡ min o n → m ≡ n
under o n m h e = omega arith

-- an operation's units, where they are short of overflow
exactly : {f : Format} {s : Bool} {n : ℕ} {x : Float} → Rounded f s n x → n < overflow f → mag f x ≡ n
exactly {f} {s} {n} {x} r h = under (overflow f) n (mag f x) h r.size_is

-- ... or where the result is finite
finite_exactly : {f : Format} {s : Bool} {n : ℕ} {x : Float} → Rounded f s n x → mag f x < overflow f → mag f x ≡ n
finite_exactly {f} {s} {n} {x} r h = go (overflow f) n (mag f x) h r.size_is
  where
    go : (o n m : ℕ) → m < o → m ≡ min o n → m ≡ n
    go o n m h e = omega arith

-- < by units, for values that are not negative
lt→mag : {f : Format} {x y : Float} → Number f x → Number f y → sign x ≡ false → sign y ≡ false → T (lt x y) → mag f x < mag f y
lt→mag {f} {x} {y} p q s t h =
    let g : overflow f + mag f x < overflow f + mag f y = ltb→lt (overflow f + mag f x) (overflow f + mag f y) (rw (lt-rank p q, s, t) at h) in omega arith

side_ends : (g : Float) → Finite binary64 (side g)
side_ends g = record { held = unfold fits in tt; ends = tt }

unlike_self : (s : Bool) → unlike s s ≡ false
unlike_self true = refl
unlike_self false = refl

unlike_false' : (s : Bool) → unlike false s ≡ s
unlike_false' true = refl
unlike_false' false = refl

-- the law in units
record Inside (x g : Float) : Type 0 where
  x_ends : Finite binary64 x
  inside : T (lt (abs_of x) limit)
  g_ends : Finite binary64 g
  g_some : T (nonzero g)
  q_ends : T (finite (quotient x g))

record Outside (x g : Float) : Type 0 where
  ends : T (finite (moved x (quotient x g) g))
  reached : T (le limit (abs_of (moved x (quotient x g) g)))

in_units : {x g : Float} → Inside x g → Outside x g
in_units {x} {g} p =
    let f = binary64 in
    let K = 2 ^ low f in
    let N = 2 ^ prec f in
    let X = mag f x in
    let G = mag f g in
    let L = mag f limit in
    let k : 2 ^ 53 ≤ K = lit≤ tt in
    let k0 : 0 < K = pow_pos (low f) in
    let n64 : 64 ≤ N = lit≤ tt in
    let over : 16 * K ≤ overflow f = lit≤ tt in
    let xs = abs_size (finite_number p.x_ends) in
    let XL : X < L = lt_of_le_of_lt (le_of_eq (sym (abs_mag f x))) (lt→mag xs.number the_limit.number xs.plus the_limit.plus p.inside) in
    let far : L * 2 ^ 30 + K ≤ K * 2 ^ 30 = the_limit.far in
    let LK : L ≤ K = below_one K L far in
    let XK : X < K = lt_of_lt_of_le XL LK in
    let G0 : 0 < G = ltb→lt 0 G (subst T (nonzero_is (finite_number p.g_ends)) p.g_some) in
    let G50 : G * 2 ^ 50 ≤ K * K = le_trans (mul-le-mul_right (2 ^ 50) (le_of_lt (finite_inside p.g_ends))) (lit≤ tt) in
    let GN : G * N ≤ 8 * (K * K) = le_trans (mul-le-mul_right N (le_of_lt (finite_inside p.g_ends))) (lit≤ tt) in
    let sx = sign x in
    let sg = sign g in
    -- the difference
    let d = left_over sg K sx X in
    let d2 : d ≤ 2 * K = left-most sg sx K X XK in
    let dl : 2 ^ 74 ≤ d = left_large (2 ^ 74) K X L d XL (lit≤ tt) far (left-least sg sx K X) in
    let S = sub f (side g) x in
    let D = mag f S in
    let rS : Rounded f sg (rnd f d) S =
    subst (λ (b : Bool). Rounded f b (rnd f d) S) (left-sign sg sx K X XK)
    (subst (λ (m : ℕ). Rounded f (sum_sign sg K (not sx) X) (rnd f m) S) (left_is sg sx K X XK)
    (subst (λ (m : ℕ). Rounded f (sum_sign sg m (not sx) X) (rnd f (sum_size sg m (not sx) X)) S) (unit-mag f) (sub_rounded (side_ends g) p.x_ends))) in
    let n1' : Near N d 1 (rnd f d) = rnd_near f d (normal_left d dl) in
    let eD : D ≡ rnd f d = exactly rS (small_enough K d (rnd f d) (overflow f) k0 (six K d d2) (twice_of d (rnd f d) n1') over) in
    let n1 : Near N d 1 D = subst (Near N d 1) (sym eD) n1' in
    let D73 : 2 ^ 73 ≤ D = large_diff d D dl (half_of d D n1) in
    let fS : Finite f S = inside_finite (record { held = sub-fits f (side g) x; num = rS.number })
    (lt_of_le_of_lt (le_of_eq eD) (small_enough K d (rnd f d) (overflow f) k0 (six K d d2) (twice_of d (rnd f d) n1') over)) in
    -- the quotient
    let q = quotient x g in
    let Q = mag f q in
    let rQ : Rounded f false (grid f D G) q =
    subst (λ (b : Bool). Rounded f b (grid f D G) q) (ap (λ (b : Bool). unlike b sg) rS.signed ∙ unlike_self sg) (div_any fS p.g_ends G0) in
    let fq : Finite f q = record { held = div-fits f S g; ends = p.q_ends } in
    let eQ : Q ≡ grid f D G = finite_exactly rQ (finite_inside fq) in
    let n2 : About N (D * K) G Q = subst (About N (D * K) G) (sym eQ) (about f D G G0) in
    -- the product
    let m = mul f q g in
    let P = mag f m in
    let rP : Rounded f sg (grid f (Q * G) (K * K)) m = subst (λ (b : Bool). Rounded f b (grid f (Q * G) (K * K)) m)
    (ap (λ (b : Bool). unlike b sg) rQ.signed ∙ unlike_false' sg) (mul-units fq p.g_ends) in
    let n3' : Near N (Q * G) K (grid f (Q * G) (K * K)) = mul_near f (Q * G)
    (normal_prod D K G (Q * G) (large_left K X L d D XL far (left-least sg sx K X) (half_of d D n1)) D73 G50 n2.under) in
    let P5' = (product N K G d D Q (grid f (Q * G) (K * K)) n64 k0 GN d2 n1 n2 n3').most in
    let Po = five K (grid f (Q * G) (K * K)) (overflow f) k0 P5' over in
    let eP : P ≡ grid f (Q * G) (K * K) = exactly rP Po in
    let fP : Finite f m = inside_finite (record { held = mul-fits f q g; num = rP.number }) (lt_of_le_of_lt (le_of_eq eP) Po) in
    let n3 : Near N (Q * G) K P = subst (Near N (Q * G) K) (sym eP) n3' in
    -- the sum
    let E = sum_size sx X sg P in
    let z = moved x q g in
    let R = mag f z in
    let rR : Rounded f (sum_sign sx X sg P) (rnd f E) z =
    subst (λ (b : Bool). Rounded f (sum_sign sx X b P) (rnd f (sum_size sx X b P)) z) rP.signed (add_rounded p.x_ends fP) in
    let a = arrives N K X P 17 sg sx XK (product N K G d D Q P n64 k0 GN d2 n1 n2 n3).least in
    let E6 = sum-most sx sg X P K XK (le_trans (le_of_eq eP) P5') in
    let n4' : Near N E 1 (rnd f E) = rnd_near f E (normal_sum K E k (half-sum K E a)) in
    let Ro = small_enough K E (rnd f E) (overflow f) k0 E6 (twice_of E (rnd f E) n4') over in
    let eR : R ≡ rnd f E = exactly rR Ro in
    let n4 : Near N E 1 R = subst (Near N E 1) (sym eR) n4' in
    let LR : L ≤ R = step_reaches N K X G D Q P R L sg sx n64 XK GN (record { difference = n1; quotient = n2; product = n3; sum = n4 }) (far_enough K L far) in
    let fz : Finite f z = inside_finite (record { held = add-fits f x m; num = rR.number }) (lt_of_le_of_lt (le_of_eq eR) Ro) in
    let zs = abs_size (finite_number fz) in
    record { ends = fz.ends; reached = mag→le the_limit.number zs.number the_limit.plus zs.plus (le_trans LR (le_of_eq (sym (abs_mag f z)))) }

-- ---- the law over doubles

inside_ends : (x : Float) → T (fits binary64 x) → T (lt (abs_of x) limit) → Finite binary64 x
unfolding lt sub add neg of_bits
inside_ends nan h t = absurd t
inside_ends (inf s) h t = absurd t
inside_ends (fin s m e) h t = record { held = h; ends = tt }

side_is : (g : Float) → T (finite g) → side g ≡ signum_of g
side_is nan t = absurd t
side_is (inf s) t = absurd t
side_is (fin s m e) t = refl

pub reaches : {x g : Float} → Free x g → Reached x g
unfolding ne of_bits
reaches {x} {g} p =
    let e = side_is g p.g_ends in
    let r = in_units (record {
      x_ends = inside_ends x p.held p.inside;
      inside = p.inside;
      g_ends = record { held = p.g_held; ends = p.g_ends };
      g_some = p.g_some;
      q_ends = subst (λ (s : Float). T (finite (div binary64 (sub binary64 s x) g))) (sym e) p.q_ends;
    }) in
    let at : Float → Float = λ s. add binary64 x (mul binary64 (div binary64 (sub binary64 s x) g) g) in
    record {
      ends = subst (λ (s : Float). T (finite (at s))) e r.ends;
      reached = subst (λ (s : Float). T (le limit (abs_of (at s)))) e r.reached;
    }

-- as request R-9 asks it: a direction of at most 2 ^ 20
pub reaches_within : {x g : Float} → Free x g → T (le (abs_of g) (fin false 1 (pos 20))) → Reached x g
reaches_within p h = reaches p
