-- The turns by the shorter way: the share of z is less than 2 below z * 64 / d, so a product with it is less than two terms short of the exact one;
-- where two terms more do not carry into its upper word, that word is the next term.
use Prim.Native.Nat.{ℕ, suc, ◌+◌, ◌-◌, ◌*◌, ◌/◌, ◌%◌, ◌^◌, ◌≤◌, ◌<◌, zero-le}
use mathlib.Core.Path.{◌≡◌, refl, sym, ap, ◌∙◌}
use native.Mathlib.Nat.{le_trans, le_of_eq, le_antisymm, le_of_lt, le_of_mul-le-mul_right, le_of_suc-le-suc, lt_of_le_of_lt, lt_of_not-le}
use native.Mathlib.Nat.{not-le_of_lt, add-le-add, mul-le-mul, mul-le-mul_left, mul-le-mul_right, div-add-mod', div-mul-le_self}
use native.Mathlib.Nat.{lt-div-mul-add, le-div_iff_mul-le}
use native.Mathlib.Omega.{arith}
use lib.Bits.{bit_or, or_add_and, and_le_l, and_le_r}
use lib.Dec.{lit<, lit≤}
use lib.ListN.{get_or}
use Rattle.terms.specs.declared.CosTerms.{CosTerms}
use Rattle.terms.specs.declared.NearTerms.{NearTerms}
use Rattle.divisors.specs.Divisors.{divisor}
use Rattle.terms.specs.Terms.{term, sums}
use Rattle.terms.specs.Turns.{CosAt, CosReady, NearAt, NearTurned}
use Rattle.divisors.proofs.Upto.{div_grows}
use Rattle.divisors.proofs.Divisors.{divisors, cosine_divisor}
use Rattle.terms.proofs.Cosines.{zmax, divisor-pos, term_grows, term_small}
use Rattle.terms.proofs.CosTurns.{stepped, next_fits}

-- ---- the share

-- the whole part of 2 ^ 70 / d, as the code has it
pub constant : (d : ℕ) → 0 < d → let c = (2 ^ 64 - 1) / d * 64 + ((2 ^ 64 - 1) % d + 1) * 64 / d in (c * d ≤ 2 ^ 70) × (2 ^ 70 < (c + 1) * d)
constant d p =
    go ((2 ^ 64 - 1) / d) ((2 ^ 64 - 1) % d) (((2 ^ 64 - 1) % d + 1) * 64 / d) (div-add-mod' (2 ^ 64 - 1) d)
    (div-mul-le_self (((2 ^ 64 - 1) % d + 1) * 64) d) (lt-div-mul-add p)
  where
    go : (w r m : ℕ) → w * d + r ≡ 2 ^ 64 - 1 → m * d ≤ (r + 1) * 64 → (r + 1) * 64 < m * d + d → ((w * 64 + m) * d ≤ 2 ^ 70) × (2 ^ 70 < (w * 64 + m + 1) * d)
    go w r m e l h = (omega arith, omega arith)

-- so the constant fits
pub constant_fits : (d c : ℕ) → 64 < d → c * d ≤ 2 ^ 70 → c < 2 ^ 64
constant_fits d c h l = lt_of_not-le (λ (g : 2 ^ 64 ≤ c). not-le_of_lt (lit< tt) (le_trans (mul-le-mul g h) l))

pub share_is : (z d c r : ℕ) → z < 2 ^ 64 → 0 < d → c * d ≤ 2 ^ 70 → 2 ^ 70 < (c + 1) * d → r ≡ z * c / 2 ^ 64 → (r * d ≤ z * 64) × (z * 64 < (r + 2) * d)
share_is z d c r hz p lo hi e =
    let a : r * 2 ^ 64 ≤ z * c = rw e (div-mul-le_self (z * c) (2 ^ 64)) in
    let b : z * c < r * 2 ^ 64 + 2 ^ 64 = omega arith in
    go (2 ^ 64) (le_of_lt hz) (lit< tt) lo (le_of_lt hi) a b
  where
    -- the same over any w for 2 ^ 64
    go : (w : ℕ) → z ≤ w → 0 < w → c * d ≤ w * 64 → w * 64 ≤ (c + 1) * d → r * w ≤ z * c → z * c < r * w + w → (r * d ≤ z * 64) × (z * 64 < (r + 2) * d)
    go w h q lo hi a b = (
      le_of_mul-le-mul_right {m = r * d} {n = z * 64} {k = w} (omega (arith, mul-le-mul_right d a, mul-le-mul_left z lo)) q,
      lt_of_not-le (λ (l : (r + 2) * d ≤ z * 64).
          not-le_of_lt p (omega (arith, mul-le-mul_right w l, mul-le-mul_right d b, mul-le-mul_left z hi, mul-le-mul_right d h))),
    )

-- ---- a term

module _ (t y d z g : ℕ) (p : 0 < d) (lo : y * d ≤ z * 64) (hi : z * 64 < (y + 2) * d) (e : g ≡ t * y / 2 ^ 64) where
  -- it is never too large
  pub not_above : g ≤ t * 64 * z / 2 ^ 64 / d
  not_above =
      let a : g * 2 ^ 64 ≤ t * y = rw e (div-mul-le_self (t * y) (2 ^ 64)) in
      let b : g * d * 2 ^ 64 ≤ t * 64 * z = omega (arith, mul-le-mul_right d a, mul-le-mul_left t lo) in
      (le-div_iff_mul-le p).1 ((le-div_iff_mul-le (lit< tt)).1 b)

  -- and right, unless two terms more would carry
  pub right : t * y % 2 ^ 64 / 2 + t < 2 ^ 63 → g ≡ t * 64 * z / 2 ^ 64 / d
  right h =
      let a : t * (y + 2) + 1 ≤ (g + 1) * 2 ^ 64 = omega arith in
      let b : t * 64 * z + d ≤ (g + 1) * d * 2 ^ 64 = omega (arith, mul-le-mul_right d a, mul-le-mul_left t hi) in
      let x : t * 64 * z / 2 ^ 64 < (g + 1) * d = omega (arith, p) in
      le_antisymm not_above (go (t * 64 * z / 2 ^ 64) x)
    where
      go : (x : ℕ) → x < (g + 1) * d → x / d ≤ g
      go x h = le_of_suc-le-suc (lt_of_not-le (λ (l : suc g ≤ x / d). not-le_of_lt h
          (le_trans (le_trans (le_of_eq (omega arith)) (mul-le-mul_right d l)) (div-mul-le_self x d))))

-- a doubt stays
pub doubt_left : (a b : ℕ) → bit_or a b < 2 ^ 63 → a < 2 ^ 63
doubt_left a b h = omega (arith, or_add_and a b, and_le_r a b)

pub doubt_right : (a b : ℕ) → bit_or a b < 2 ^ 63 → b < 2 ^ 63
doubt_right a b h = omega (arith, or_add_and a b, and_le_l a b)

-- ---- the turns

pub turned : (z d y : ℕ) {g l : ℕ} {n : NearTerms} → 0 < d → (y * d ≤ z * 64) × (z * 64 < (y + 2) * d) → g ≡ n.terms.term * y / 2 ^ 64
    → l ≡ n.terms.term * y % 2 ^ 64
    → NearTurned z d n (record {
      terms = record { term = g; plus = n.terms.minus + g; minus = n.terms.plus };
      doubt = bit_or n.doubt (l / 2 + n.terms.term);
    })
turned z d y {g} {l} {n} p s e f = record {
  term-le = not_above n.terms.term y d z g p s.0 s.1 e;
  plus_is = refl;
  minus_is = refl;
  sure = λ h. (
    doubt_left n.doubt (l / 2 + n.terms.term) h,
    right n.terms.term y d z g p s.0 s.1 e (rw f at (doubt_right n.doubt (l / 2 + n.terms.term) h)),
  );
}

pub started : {z k : ℕ} {s : CosTerms} → CosAt z k s → NearAt z k (record { terms = s; doubt = 0 })
started a = record { term-le = le_of_eq a.term_is; plus-le = le_of_eq a.plus_is; minus-le = le_of_eq a.minus_is; sure = λ h. a }

next_grows : (z d a b : ℕ) → 0 < d → a ≤ b → a * 64 * z / 2 ^ 64 / d ≤ b * 64 * z / 2 ^ 64 / d
next_grows z d a b p h = div_grows d p (div_grows (2 ^ 64) (lit< tt) (mul-le-mul_right z (mul-le-mul_right 64 h)))

pub near_stepped : {z : ℕ} {n r : NearTerms} (k : ℕ) → k < 20 → NearAt z k n → NearTurned z (get_or divisors k 0) n r → NearAt z (suc k) r
unfolding term sums
near_stepped {z} {n} {r} k l a h =
    let e = cosine_divisor k l in
    let top : r.terms.term ≤ term z k * 64 * z / 2 ^ 64 / divisor k =
    le_trans (rw e at h.term-le) (next_grows z (divisor k) n.terms.term (term z k) (divisor-pos k) a.term-le) in
    record {
      term-le = top;
      plus-le = rw h.plus_is (add-le-add a.minus-le top);
      minus-le = rw h.minus_is a.plus-le;
      sure = λ q. let f = h.sure q in stepped k l (a.sure f.0) (record {
        term_is = f.1;
        plus_is = h.plus_is ∙ ap (λ (x : ℕ). n.terms.minus + x) f.1;
        minus_is = h.minus_is;
      });
    }

pub reach_fits : (t y l : ℕ) → l ≡ t * y % 2 ^ 64 → t < 2 ^ 58 → l / 2 + t < 2 ^ 64
reach_fits t y l e h = omega arith

-- what a turn asks
pub near_ready : {z : ℕ} {n : NearTerms} (k : ℕ) → 5 ≤ k → k < 20 → z ≤ zmax → NearAt z k n
    → CosReady z (get_or divisors k 0) n.terms × ((64 < get_or divisors k 0) × (get_or divisors k 0 < 2 ^ 32))
near_ready {z} {n} k g l h a =
    let e = cosine_divisor k l in
    let low : (11 ≤ 2 * k + 1) × (12 ≤ 2 * k + 2) = (omega arith, omega arith) in
    let high : (2 * k + 1 ≤ 39) × (2 * k + 2 ≤ 40) = (omega arith, omega arith) in
    let many : 11 * 12 ≤ divisor k = mul-le-mul low.0 low.1 in
    let few : divisor k ≤ 39 * 40 = mul-le-mul high.0 high.1 in (
      record {
        divides = rw e (omega arith);
        term_fits = lt_of_le_of_lt a.term-le (term_small z h k (omega arith));
        sum_fits = rw e (lt_of_le_of_lt
            (add-le-add a.minus-le (next_grows z (divisor k) n.terms.term (term z k) (divisor-pos k) a.term-le))
            (next_fits z k h l));
      },
      (rw e (omega arith), rw e (omega arith)),
    )

-- the twentieth term is 0
none : (z : ℕ) → z ≤ zmax → term z 20 ≡ 0
unfolding term
none z h = le_antisymm (le_trans (term_grows h 20) (lit≤ tt)) zero-le

pub last_on : {z : ℕ} {s : CosTerms} → z ≤ zmax → CosAt z 19 s → CosAt z 20 (record { term = 0; plus = s.minus; minus = s.plus })
unfolding sums
last_on {z} {s} h a = record { term_is = sym (none z h); plus_is = a.minus_is ∙ same (sums z 19).1 (term z 20) (none z h); minus_is = a.plus_is }
  where
    same : (x y : ℕ) → y ≡ 0 → x ≡ x + y
    same x y e = omega arith
