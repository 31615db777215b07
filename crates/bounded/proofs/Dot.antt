-- A running sum of rounded products is the exact sum but for a bound: of a vector of the basis, with entries of at most 2, and one that is projected,
-- at most 256 entries each.
use mathlib.Core.Path.{◌≡◌, refl}
use Prim.Native.Nat.{ℕ, zero, suc, ◌+◌, ◌*◌, ◌^◌, ◌≤◌, ◌<◌}
use native.Mathlib.Nat.{le_refl, le_trans, le_of_eq, lt-suc_self, lt_of_le_of_lt, mul-le-mul, mul-le-mul_right, add-le-add, zero-mul}
use native.Mathlib.Omega.{arith}
use lib.Dec.{lit≤, lit<}
use lib.Ieee.{Float, binary64, prec, low, unlike, add, mul}
use lib.Ieee.Scale.{overflow}
use Rattle.ieee.specs.Units.{sign, mag}
use Rattle.seq.specs.Sums.{sum_from}
use Rattle.ieee.specs.Pass.{sum_up}
use Rattle.ieee.proofs.Ops.{finite_inside}
use Rattle.bounded.proofs.Within.{Within, mul_within, sum_within, total, K, Kind, drawn, row, bits, Vec, fewer}
use Rattle.bounded.proofs.Close.{Close}
use Rattle.bounded.proofs.Signed.{over, below, plus, less, add_close, mul_close}

-- ---- the exact products, by sign
abbrev pub like : (ℕ → Float) → (ℕ → Float) → ℕ → ℕ
like q v j = over (unlike (sign (q j)) (sign (v j))) (mag binary64 (q j) * mag binary64 (v j))

abbrev pub unalike : (ℕ → Float) → (ℕ → Float) → ℕ → ℕ
unalike q v j = below (unlike (sign (q j)) (sign (v j))) (mag binary64 (q j) * mag binary64 (v j))

abbrev pub dot : (ℕ → Float) → (ℕ → Float) → ℕ → Float
dot q v k = sum_up binary64 (λ (j : ℕ). mul binary64 (q j) (v j)) k

-- 2 ^ -60 of an entry's bound, in units
abbrev pub U : Kind → ℕ
U w = 2 ^ (1006 + bits w)

-- the computed dot product is within a bound, and the exact one but for another
pub record Dotted (w : Kind) (q v : ℕ → Float) (k : ℕ) : Type 0 where
  pub within : Within binary64 (k * 2 ^ (1075 + bits w)) (dot q v k)
  pub close : Close (k * (2 ^ 27 * (K * U w))) (plus binary64 (dot q v k) * K) (less binary64 (dot q v k) * K) (total (like q v) k) (total (unalike q v) k)

room : (c p k M N e : ℕ) → c ≤ k * M → p ≤ M → k ≤ 256 → 257 * M + N ≤ e * N → c + p + N ≤ e * N
room c p k M N e h g b l = let x = mul-le-mul_right M b in omega arith

space : (c p k M e o : ℕ) → c ≤ k * M → p ≤ M → k ≤ 256 → 257 * M + e < o → c + p + e < o
space c p k M e o h g b l = let x = mul-le-mul_right M b in omega arith

joined : (k E ea em K c n p m c' n' A B a b : ℕ) → ea * K + em ≤ E → Close (k * E) (c * K) (n * K) A B → Close em (p * K) (m * K) a b
    → Close ea c' n' (c + p) (n + m) → Close (suc k * E) (c' * K) (n' * K) (A + a) (B + b)
joined k E ea em K c n p m c' n' A B a b h x y z = record {
  over = let o = mul-le-mul_right K z.over in let s = x.over in let t = y.over in omega arith;
  low_by = let o = mul-le-mul_right K z.low_by in let s = x.low_by in let t = y.low_by in omega arith;
}

-- ---- what the bounds come to, for each kind

product_room : (w : Kind) → 2 ^ 1075 * 2 ^ (1074 + bits w) ≤ 2 ^ (1075 + bits w) * K
product_room drawn = lit≤ tt
product_room row = lit≤ tt

product-fits : (w : Kind) → 2 ^ (1075 + bits w) < overflow binary64
product-fits drawn = lit< tt
product-fits row = lit< tt

sum_fits : (w : Kind) → 256 * 2 ^ (1075 + bits w) < overflow binary64
sum_fits drawn = lit< tt
sum_fits row = lit< tt

product_off : (w : Kind) → 2 ^ 1075 * 2 ^ (1074 + bits w) + K * 2 ^ 53 ≤ 2 ^ 17 * (K * U w) * 2 ^ 53
product_off drawn = lit≤ tt
product_off row = lit≤ tt

sum_off : (w : Kind) → 257 * 2 ^ (1075 + bits w) + 2 ^ 53 ≤ 2 ^ 26 * U w * 2 ^ 53
sum_off drawn = lit≤ tt
sum_off row = lit≤ tt

sum_space : (w : Kind) → 257 * 2 ^ (1075 + bits w) + 2 ^ 26 * U w < overflow binary64
sum_space drawn = lit< tt
sum_space row = lit< tt

both_off : (w : Kind) → 2 ^ 26 * U w * K + 2 ^ 17 * (K * U w) ≤ 2 ^ 27 * (K * U w)
both_off drawn = lit≤ tt
both_off row = lit≤ tt

pub products : (w : Kind) {k : ℕ} {q v : ℕ → Float} → Vec 1 k q → Vec (bits w) k v → (j : ℕ) → j < k
    → Within binary64 (2 ^ (1075 + bits w)) (mul binary64 (q j) (v j))
products w p r j l = mul_within 1075 (1074 + bits w) (1075 + bits w) (product_room w) (product-fits w) (p.each j l) (r.each j l)

nothing : (a b E : ℕ) → a ≡ 0 → b ≡ 0 → Close (0 * E) a b 0 0
nothing a b E g h = record { over = omega arith; low_by = omega arith }

pub dotted : (w : Kind) (k : ℕ) (q v : ℕ → Float) → k ≤ 256 → Vec 1 k q → Vec (bits w) k v → Dotted w q v k
unfolding total sum_from
dotted w zero q v h p r = record {
  within =
      sum_within binary64 (λ (j : ℕ). mul binary64 (q j) (v j)) (1075 + bits w) 0 (λ j l. products w p r j l) (lit< tt)
      (lt_of_le_of_lt (le_of_eq (zero-mul (2 ^ (1075 + bits w)))) (lit< tt));
  close = nothing (plus binary64 (dot q v 0) * K) (less binary64 (dot q v 0) * K) (2 ^ 27 * (K * U w)) refl refl;
}
dotted w (suc k) q v h p r =
    let f = binary64 in
    let M = 2 ^ (1075 + bits w) in
    let k' : k ≤ 256 = omega arith in
    let few : suc k < 2 ^ prec f = lt_of_le_of_lt h (lit< tt) in
    let fits : suc k * M < overflow f = lt_of_le_of_lt (mul-le-mul_right M h) (sum_fits w) in
    let ih = dotted w k q v k' (fewer p) (fewer r) in
    let t = products w p r k (lt-suc_self k) in
    let c = dot q v k in
    let m = mul f (q k) (v k) in
    let cm = mul_close (2 ^ 17 * (K * U w)) (p.each k (lt-suc_self k)).ends (r.each k (lt-suc_self k)).ends (finite_inside t.ends)
    (le_trans (add-le-add (mul-le-mul (p.each k (lt-suc_self k)).most (r.each k (lt-suc_self k)).most) (le_refl (2 ^ low f * 2 ^ prec f)))
    (product_off w)) in
    let ca = add_close (2 ^ 26 * U w) ih.within.ends t.ends
    (room (mag f c) (mag f m) k M (2 ^ prec f) (2 ^ 26 * U w) ih.within.most t.most k' (sum_off w))
    (space (mag f c) (mag f m) k M (2 ^ 26 * U w) (overflow f) ih.within.most t.most k' (sum_space w)) in
    record {
      within = sum_within f (λ (j : ℕ). mul f (q j) (v j)) (1075 + bits w) (suc k) (λ j l. products w p r j l) few fits;
      close =
          joined k (2 ^ 27 * (K * U w)) (2 ^ 26 * U w) (2 ^ 17 * (K * U w)) K (plus f c) (less f c) (plus f m) (less f m) (plus f (add f c m))
          (less f (add f c m))
          (total (like q v) k) (total (unalike q v) k) (like q v k) (unalike q v k) (both_off w) ih.close cm ca;
    }
