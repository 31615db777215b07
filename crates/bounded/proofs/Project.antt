-- One projection, on a vector whose sum of squares is at most 2: the sum of squares grows by no more than the roundings do.
use mathlib.Core.Path.{◌≡◌, refl, sym, ap, ◌∙◌, subst}
use Prim.Native.Nat.{ℕ, ◌+◌, ◌*◌, ◌^◌, ◌≤◌, ◌<◌}
use native.Mathlib.Nat.{le_refl, le_trans, lt_of_le_of_lt, le_of_mul-le-mul_right, mul-le-mul, mul-le-mul_right, mul-le-mul_left, add-le-add, mul-pos}
use native.Mathlib.Omega.{arith}
use mathlib.Core.Bool.{Bool, true, false, cond}
use lib.Dec.{lit≤, lit<}
use lib.Pow.{pow_pos}
use lib.Ieee.{Float, binary64, prec, low, unlike, sub, mul}
use lib.Ieee.Fits.{sub-fits}
use lib.Ieee.Scale.{overflow}
use Rattle.ieee.specs.Units.{sign, mag}
use Rattle.ieee.proofs.Ops.{Finite, finite_inside, inside_finite}
use Rattle.reaching.proofs.Divide.{sub_rounded}
use Rattle.bounded.proofs.Close.{Close}
use Rattle.bounded.proofs.Signed.{over, below, plus, less, sub_close, mul_close}
use Rattle.bounded.proofs.Within.{Within, mul_within, total, K, Kind, drawn, row, bits, grain, Vec}
use Rattle.bounded.proofs.Dot.{U, dot, like, unalike, dotted}
use Rattle.bounded.proofs.Squares.{sq, entry, entries, no_longer}

abbrev pub sizes : (ℕ → Float) → ℕ → ℕ
sizes v j = mag binary64 (v j)

-- the exact sum of squares, in units of units
abbrev pub squares : (ℕ → Float) → ℕ → ℕ
squares v k = total (sq (sizes v)) k

-- a vector of at most k entries that is about as long as 1: entries of at most 2, and a sum of squares of at most 2
pub record Short (k : ℕ) (q : ℕ → Float) : Type 0 where
  pub entries_in : Vec 1 k q
  pub length_in : squares q k ≤ 2 * (K * K)

-- v less its part along q
abbrev pub strip : ℕ → (ℕ → Float) → (ℕ → Float) → ℕ → Float
strip k q v j = sub binary64 (v j) (mul binary64 (dot q v k) (q j))

-- ---- one entry
turned : (r s t : Bool) (m : ℕ) → over (unlike s (unlike r t)) m ≡ cond r (below (unlike t s) m) (over (unlike t s) m)
turned true true true m = refl
turned true true false m = refl
turned true false true m = refl
turned true false false m = refl
turned false true true m = refl
turned false true false m = refl
turned false false true m = refl
turned false false false m = refl

turned' : (r s t : Bool) (m : ℕ) → below (unlike s (unlike r t)) m ≡ cond r (over (unlike t s) m) (below (unlike t s) m)
turned' true true true m = refl
turned' true true false m = refl
turned' true false true m = refl
turned' true false false m = refl
turned' false true true m = refl
turned' false true false m = refl
turned' false false true m = refl
turned' false false false m = refl

-- the largest of |v| K + |c q|, the rounding of an entry, and what that does to a square
abbrev W : Kind → ℕ
W w = 2 ^ (1074 + bits w) * K + 2 ^ (1083 + bits w) * 2 ^ 1075

abbrev n : Kind → ℕ
n w = 2 ^ 28 * (K * U w)

abbrev e : Kind → ℕ
e w = 2 * (W w * n w) + n w * n w

-- ---- what the bounds come to, for each kind

product_room : (w : Kind) → 2 ^ (1083 + bits w) * 2 ^ 1075 ≤ 2 ^ (1084 + bits w) * K
product_room drawn = lit≤ tt
product_room row = lit≤ tt

product-fits : (w : Kind) → 2 ^ (1084 + bits w) < overflow binary64
product-fits drawn = lit< tt
product-fits row = lit< tt

product_off : (w : Kind) → 2 ^ (1083 + bits w) * 2 ^ 1075 + K * 2 ^ 53 ≤ 2 ^ 26 * (K * U w) * 2 ^ 53
product_off drawn = lit≤ tt
product_off row = lit≤ tt

sum_off : (w : Kind) → 2 ^ (1074 + bits w) + 2 ^ (1084 + bits w) + 2 ^ 53 ≤ 2 ^ 27 * U w * 2 ^ 53
sum_off drawn = lit≤ tt
sum_off row = lit≤ tt

sum_space : (w : Kind) → 2 ^ (1074 + bits w) + 2 ^ (1084 + bits w) + 2 ^ 27 * U w < overflow binary64
sum_space drawn = lit< tt
sum_space row = lit< tt

both_off : (w : Kind) → 2 ^ 27 * U w * K + 2 ^ 26 * (K * U w) ≤ n w
both_off drawn = lit≤ tt
both_off row = lit≤ tt

factor_most : (w : Kind) → 256 * 2 ^ (1075 + bits w) ≤ 2 ^ (1083 + bits w)
factor_most drawn = lit≤ tt
factor_most row = lit≤ tt

grain-most : (w : Kind) → 2 * (2 ^ (1083 + bits w) * K) * (256 * (2 ^ 27 * (K * U w))) + 256 * e w ≤ grain w * (K * K)
grain-most drawn = lit≤ tt
grain-most row = lit≤ tt

moved : (es em d K p m v u a b v' u' : ℕ) → es * K + em ≤ d → Close em (p * K) (m * K) a b → Close es v' u' (v + m) (u + p)
    → Close d (v' * K) (u' * K) (v * K + b) (u * K + a)
moved es em d K p m v u a b v' u' h x y = record {
  over = let o = mul-le-mul_right K y.over in let s = x.low_by in omega arith;
  low_by = let o = mul-le-mul_right K y.low_by in let s = x.over in omega arith;
}

fits_in : (X Y N a b c : ℕ) → X ≤ a → Y ≤ b → a + b + N ≤ c → X + Y + N ≤ c
fits_in X Y N a b c h g l = omega arith

fits_under : (X Y E a b o : ℕ) → X ≤ a → Y ≤ b → a + b + E < o → X + Y + E < o
fits_under X Y E a b o h g l = omega arith

times-over : (s : Bool) (m K : ℕ) → over s m * K ≡ over s (m * K)
times-over true m K = omega arith
times-over false m K = refl

times_below : (s : Bool) (m K : ℕ) → below s m * K ≡ below s (m * K)
times_below true m K = refl
times_below false m K = omega arith

pub record Entry (w : Kind) (c v q z : Float) : Type 0 where
  pub close : Close (n w) (over (sign z) (mag binary64 z * K)) (below (sign z) (mag binary64 z * K))
      (over (sign v) (mag binary64 v * K) + below (unlike (sign c) (sign q)) (mag binary64 c * mag binary64 q))
      (below (sign v) (mag binary64 v * K) + over (unlike (sign c) (sign q)) (mag binary64 c * mag binary64 q))
  pub ends : Finite binary64 z

rounded_size : (s : Bool) (d Z a b : ℕ) → Close d (over s Z) (below s Z) a b → Z ≤ a + b + d
rounded_size true d Z a b c = let x = c.low_by in omega arith
rounded_size false d Z a b c = let x = c.over in omega arith

parts_most : (s t : Bool) (x y : ℕ) → over s x + below t y + (below s x + over t y) ≤ x + y
parts_most true true x y = omega arith
parts_most true false x y = omega arith
parts_most false true x y = omega arith
parts_most false false x y = omega arith

one_entry : (w : Kind) {c v q : Float} → Within binary64 (2 ^ (1083 + bits w)) c → Within binary64 (2 ^ (1074 + bits w)) v
    → Within binary64 (2 ^ 1075) q → Entry w c v q (sub binary64 v (mul binary64 c q))
one_entry w {c} {v} {q} C B Q =
    let f = binary64 in
    let m = mul f c q in
    let z = sub f v m in
    let M = mul_within (1083 + bits w) 1075 (1084 + bits w) (product_room w) (product-fits w) C Q in
    let cm = mul_close (2 ^ 26 * (K * U w)) C.ends Q.ends (finite_inside M.ends)
    (le_trans (add-le-add (mul-le-mul C.most Q.most) (le_refl (2 ^ low f * 2 ^ prec f))) (product_off w)) in
    let under = fits_under (mag f v) (mag f m) (2 ^ 27 * U w) (2 ^ (1074 + bits w)) (2 ^ (1084 + bits w)) (overflow f) B.most M.most (sum_space w) in
    let cs = sub_close (2 ^ 27 * U w) B.ends M.ends
    (fits_in (mag f v) (mag f m) (2 ^ prec f) (2 ^ (1074 + bits w)) (2 ^ (1084 + bits w)) (2 ^ 27 * U w * 2 ^ prec f) B.most M.most (sum_off w)) under in
    let a = over (unlike (sign c) (sign q)) (mag f c * mag f q) in
    let b = below (unlike (sign c) (sign q)) (mag f c * mag f q) in
    let d = moved (2 ^ 27 * U w) (2 ^ 26 * (K * U w)) (n w) K (plus f m) (less f m) (plus f v) (less f v) a b (plus f z) (less f z) (both_off w) cm cs in
    let big : mag f z ≤ mag f v + mag f m + 2 ^ 27 * U w =
    le_trans (rounded_size (sign z) (2 ^ 27 * U w) (mag f z) (plus f v + less f m) (less f v + plus f m) cs)
    (add-le-add (parts_most (sign v) (sign m) (mag f v) (mag f m)) (le_refl (2 ^ 27 * U w))) in
    record {
      close =
          subst (λ (k : ℕ). Close (n w) k (below (sign z) (mag f z * K)) (over (sign v) (mag f v * K) + b) (below (sign v) (mag f v * K) + a))
          (times-over (sign z) (mag f z) K)
          (subst (λ (k : ℕ). Close (n w) (plus f z * K) k (over (sign v) (mag f v * K) + b) (below (sign v) (mag f v * K) + a))
          (times_below (sign z) (mag f z) K)
          (subst (λ (k : ℕ). Close (n w) (plus f z * K) (less f z * K) (k + b) (below (sign v) (mag f v * K) + a)) (times-over (sign v) (mag f v) K)
          (subst (λ (k : ℕ). Close (n w) (plus f z * K) (less f z * K) (plus f v * K + b) (k + a)) (times_below (sign v) (mag f v) K) d)));
      ends = inside_finite (record { held = sub-fits f v m; num = (sub_rounded B.ends M.ends).number }) (lt_of_le_of_lt big under);
    }

-- ---- all entries
scaled : (b : Bool) (x c q k : ℕ) → over b (x * k * (c * q)) ≡ c * k * over b (q * x)
scaled true x c q k = omega arith
scaled false x c q k = omega arith

scaled' : (b : Bool) (x c q k : ℕ) → below b (x * k * (c * q)) ≡ c * k * below b (q * x)
scaled' true x c q k = omega arith
scaled' false x c q k = omega arith

abbrev with_it : Bool → (ℕ → Float) → (ℕ → Float) → ℕ → ℕ
with_it r q v j = cond r (unalike q v j) (like q v j)

abbrev against : Bool → (ℕ → Float) → (ℕ → Float) → ℕ → ℕ
against r q v j = cond r (like q v j) (unalike q v j)

reshape : (z x c q k g h g' h' e : ℕ) → g ≡ c * k * g' → h ≡ c * k * h' → z * k * (z * k) + 2 * g ≤ x * k * (x * k) + c * q * (c * q) + 2 * h + e
    → z * z * (k * k) + 2 * (c * k) * g' ≤ x * x * (k * k) + c * c * (q * q) + 2 * (c * k) * h' + e
reshape z x c q k g h g' h' e u w l = omega arith

bound_W : (x k c q a b d : ℕ) → x ≤ a → c ≤ b → q ≤ d → x * k + c * q ≤ a * k + b * d
bound_W x k c q a b d g h l = add-le-add (mul-le-mul_right k g) (mul-le-mul h l)

squared_entry : (w : Kind) (c : Float) (q v : ℕ → Float) (j : ℕ) → Within binary64 (2 ^ (1083 + bits w)) c
    → Within binary64 (2 ^ (1074 + bits w)) (v j) → Within binary64 (2 ^ 1075) (q j)
    → sq (sizes (λ (i : ℕ). sub binary64 (v i) (mul binary64 c (q i)))) j * (K * K) + 2 * (mag binary64 c * K) * with_it (sign c) q v j
    ≤ sq (sizes v) j * (K * K) + mag binary64 c * mag binary64 c * sq (sizes q) j + 2 * (mag binary64 c * K) * against (sign c) q v j + e w
squared_entry w c q v j C B Q =
    let f = binary64 in
    let z = sub f (v j) (mul f c (q j)) in
    let t = unlike (sign c) (sign (q j)) in
    let s = sign (v j) in
    let X = mag f (v j) in
    let Y = mag f (q j) in
    let M = mag f c in
    reshape (mag f z) X M Y K (over (unlike s t) (X * K * (M * Y))) (below (unlike s t) (X * K * (M * Y))) (with_it (sign c) q v j)
    (against (sign c) q v j) (e w)
    (scaled (unlike s t) X M Y K ∙ ap (λ (i : ℕ). M * K * i) (turned (sign c) s (sign (q j)) (Y * X)))
    (scaled' (unlike s t) X M Y K ∙ ap (λ (i : ℕ). M * K * i) (turned' (sign c) s (sign (q j)) (Y * X)))
    (entry s t (sign z) (mag f z * K) (X * K) (M * Y) (n w) (W w) (e w) (one_entry w C B Q).close
    (bound_W X K M Y (2 ^ (1074 + bits w)) (2 ^ (1083 + bits w)) (2 ^ 1075) B.most C.most Q.most) (le_refl (e w)))

total-cond : (r : Bool) (a b : ℕ → ℕ) (k : ℕ) → total (λ (j : ℕ). cond r (a j) (b j)) k ≡ cond r (total a k) (total b k)
total-cond true a b k = refl
total-cond false a b k = refl

toward : (r : Bool) (C A B d k : ℕ) → Close d (over r C * k) (below r C * k) A B → C * k + cond r A B ≤ cond r B A + d
toward true C A B d k c = let x = c.low_by in omega arith
toward false C A B d k c = let x = c.over in omega arith

-- z is no longer than v but for rounding
pub record Stripped (w : Kind) (k : ℕ) (v z : ℕ → Float) : Type 0 where
  pub ends : (j : ℕ) → j < k → Finite binary64 (z j)
  pub grown : squares z k ≤ squares v k + grain w

finish : (z x KK G k0 d0 e0 C0 : ℕ) (C d E : ℕ) → 0 < KK → z * KK ≤ x * KK + (2 * (C * k0) * d + E) → C ≤ C0 → d ≤ d0 → E ≤ e0
    → 2 * (C0 * k0) * d0 + e0 ≤ G * KK → z ≤ x + G
finish z x KK G k0 d0 e0 C0 C d E P h a b g l =
    le_of_mul-le-mul_right
    (let m : 2 * (C * k0) * d ≤ 2 * (C0 * k0) * d0 = mul-le-mul (mul-le-mul_left 2 (mul-le-mul_right k0 a)) b in
    let s : z * KK ≤ (x + G) * KK = omega arith in
    s) P

pub stripped : (w : Kind) (k : ℕ) (q v : ℕ → Float) → k ≤ 256 → Short k q → Vec (bits w) k v → Stripped w k v (strip k q v)
stripped w k q v h p b =
    let f = binary64 in
    let d = dotted w k q v h p.entries_in b in
    let c = dot q v k in
    let r = sign c in
    let C : Within f (2 ^ (1083 + bits w)) c = record {
      ends = d.within.ends;
      most = le_trans d.within.most
          (le_trans (mul-le-mul_right (2 ^ (1075 + bits w)) h) (factor_most w));
    } in
    let M = mag f c in
    let D = k * (2 ^ 27 * (K * U w)) in
    let all = entries (sizes (strip k q v)) (sizes v) (sizes q) (with_it r q v) (against r q v) M K (e w) k
    (λ j l. squared_entry w c q v j C (b.each j l) (p.entries_in.each j l)) in
    let near : M * K + total (against r q v) k ≤ total (with_it r q v) k + D =
    subst (λ (i : ℕ). M * K + i ≤ total (with_it r q v) k + D) (sym (total-cond r (like q v) (unalike q v) k))
    (subst (λ (i : ℕ). M * K + cond r (total (like q v) k) (total (unalike q v) k) ≤ i + D) (sym (total-cond r (unalike q v) (like q v) k))
    (toward r M (total (like q v) k) (total (unalike q v) k) D K d.close)) in
    let low_growth = no_longer (squares (strip k q v) k) (squares v k) (squares q k) (total (with_it r q v) k) (total (against r q v) k) M K D
    (k * e w) all p.length_in near in
    record {
      ends = λ j l. (one_entry w C (b.each j l) (p.entries_in.each j l)).ends;
      grown = finish (squares (strip k q v) k) (squares v k) (K * K) (grain w) K (256 * (2 ^ 27 * (K * U w))) (256 * e w) (2 ^ (1083 + bits w)) M D (k * e w)
          (mul-pos (pow_pos (low f)) (pow_pos (low f))) low_growth C.most (mul-le-mul_right (2 ^ 27 * (K * U w)) h) (mul-le-mul_right (e w) h)
          (grain-most w);
    }
