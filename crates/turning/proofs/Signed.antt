-- A sign goes through every operation: a negated operand gives the negated result, but for the sign of a zero.
use Prim.Native.Nat.{ℕ, zero, suc, ◌+◌, ◌-◌, ◌*◌, ◌^◌, ◌≤◌, ◌<◌}
use mathlib.Core.Path.{◌≡◌, refl, sym, ap, ◌∙◌, subst}
use mathlib.Core.Bool.{Bool, true, false, not, cond, ◌&&◌, beq, true≢false}
use native.Mathlib.Nat.{mul-pos}
use native.Mathlib.Omega.{arith}
use lib.IntN.{pos}
use lib.Dec.{T, ltb, eqb, nltb→le}
use lib.Ieee.{Float, nan, inf, fin, Format, binary64, prec, emax, low, up, down, unlike, units, odd, round, sum, neg, add, sub, mul, div, lt, is_nan, of_bits}
use lib.Ieee.Fits.{down_pos}
use Rattle.seq.specs.Choice.{pick}
use Rattle.seq.specs.Sums.{plus_zero, sum_from}
use Rattle.ieee.specs.Flat.{flat, Alike, is_zero}
use Rattle.ieee.specs.Magnitude.{abs_of, larger_of, max_abs_to, above_of}
use Rattle.ieee.specs.Units.{sign, is_num}
use Rattle.ieee.proofs.Flat.{round_zero, zero_times}
use Rattle.ieee.proofs.Ops.{mul_commutes}
use Rattle.ieee.proofs.Alikes.{alike_refl, alike_of_eq, alike_trans, add_alike, sub_alike, mul_alike, div_alike, neg_alike, abs_alike, nan_alike, lt_alike}
use Rattle.ieee.proofs.Equality.{alike_nonzero}
use Rattle.ieee.proofs.Ranks.{none_below, ltb_no}
use Rattle.votes.specs.Signing.{signed_by}
use Rattle.ieee.proofs.Negation.{not_unlike, neg-neg, round-neg, neg-times, times-neg}

-- ---- what negation does, to the bit

-- the sign of a product of one value with itself, of a product with a value that is not turned, and of what is turned there and back
pub unlike_self : (s : Bool) → unlike s s ≡ false
unlike_self true = refl
unlike_self false = refl

pub unlike_none : (s : Bool) → unlike false s ≡ s
unlike_none true = refl
unlike_none false = refl

pub unlike-back : (s t : Bool) → unlike (unlike s t) s ≡ t
unlike-back true true = refl
unlike-back true false = refl
unlike-back false true = refl
unlike-back false false = refl

neg-over : (f : Format) (x y : Float) → div f (neg x) y ≡ neg (div f x y)
unfolding div neg
neg-over f nan y = refl
neg-over f (inf s) nan = refl
neg-over f (inf s) (inf t) = refl
neg-over f (inf s) (fin t n d) = ap inf (not_unlike s t)
neg-over f (fin s m e) nan = refl
neg-over f (fin s m e) (inf t) = ap (λ (z : Bool). fin z 0 (pos 0)) (not_unlike s t)
neg-over f (fin s m e) (fin t n d) = go (eqb n 0) (eqb m 0)
  where
    go : (u v : Bool) → cond u (cond v nan (inf (unlike (not s) t))) (round f (unlike (not s) t) (m * up e * down d) (n * up d * down e))
        ≡ neg (cond u (cond v nan (inf (unlike s t))) (round f (unlike s t) (m * up e * down d) (n * up d * down e)))
    go true true = refl
    go true false = ap inf (not_unlike s t)
    go false v = ap (λ (z : Bool). round f z (m * up e * down d) (n * up d * down e)) (not_unlike s t) ∙ round-neg f (unlike s t) _ _

-- ---- of a sum, but for the sign of a zero

alike_neg_zeros : (s t : Bool) (x y : Float) → x ≡ fin s 0 (pos 0) → y ≡ fin t 0 (pos 0) → flat x ≡ flat (neg y)
unfolding neg
alike_neg_zeros s t x y p q = ap flat p ∙ sym (ap (λ (z : Float). flat (neg z)) q)

sum-neg : (f : Format) (s : Bool) (a : ℕ) (t : Bool) (b c : ℕ) → 0 < c → flat (sum f (not s) a (not t) b c) ≡ flat (neg (sum f s a t b c))
unfolding sum
sum-neg f s a t b c C = go (beq s t) (same s t) (ltb a b) (nltb→le a b) (ltb b a) (nltb→le b a)
  where
    same : (s t : Bool) → beq (not s) (not t) ≡ beq s t
    same true true = refl
    same true false = refl
    same false true = refl
    same false false = refl

    and_not : (s : Bool) → round f (not s && true) (a - b) c ≡ neg (round f (s && true) (a - b) c)
    and_not true = round-neg f true (a - b) c
    and_not false = round-neg f false (a - b) c

    none : (s : Bool) → a - b ≡ 0 → round f (s && false) (a - b) c ≡ fin (s && false) 0 (pos 0)
    none s e = ap (λ (z : ℕ). round f (s && false) z c) e ∙ round_zero f (s && false) c C

    go : (u : Bool) → beq (not s) (not t) ≡ u → (v : Bool) → (T (not v) → b ≤ a) → (w : Bool) → (T (not w) → a ≤ b)
        → flat (cond (beq (not s) (not t)) (round f (not s) (a + b) c) (cond v (round f (not t) (b - a) c) (round f (not s && w) (a - b) c)))
        ≡ flat (neg (cond u (round f s (a + b) c) (cond v (round f t (b - a) c) (round f (s && w) (a - b) c))))
    go true e v h w k = rw e (ap flat (round-neg f s (a + b) c))
    go false e true h w k = rw e (ap flat (round-neg f t (b - a) c))
    go false e false h true k = rw e (ap flat (and_not s))
    go false e false h false k =
        let l : a ≤ b = k tt in
        let o : a - b ≡ 0 = omega arith in
        rw e (alike_neg_zeros (not s && false) (s && false) _ _ (none (not s) o) (none s o))

neg-plus : (f : Format) (x y : Float) → Alike (add f (neg x) (neg y)) (neg (add f x y))
unfolding add neg
neg-plus f nan y = record { flatly = refl }
neg-plus f (inf s) nan = record { flatly = refl }
neg-plus f (inf s) (inf t) = record { flatly = go s t }
  where
    go : (s t : Bool) → flat (cond (beq (not s) (not t)) (inf (not s)) nan) ≡ flat (neg (cond (beq s t) (inf s) nan))
    go true true = refl
    go true false = refl
    go false true = refl
    go false false = refl
neg-plus f (inf s) (fin t n d) = record { flatly = refl }
neg-plus f (fin s m e) nan = record { flatly = refl }
neg-plus f (fin s m e) (inf t) = record { flatly = refl }
neg-plus f (fin s m e) (fin t n d) =
    record { flatly = sum-neg f s (m * up e * down d) t (n * up d * down e) (down e * down d) (mul-pos (down_pos e) (down_pos d)) }

-- ---- two values that face each other: alike, once the second is negated where `turned` says so

pub record Facing (turned : Bool) (x y : Float) : Type 0 where
  pub alike : Alike x (signed_by turned y)

pub facing : {x y : Float} → Alike x y → Facing false x y
facing p = record { alike = p }

signed-plus : (f : Format) (b : Bool) (x y : Float) → Alike (add f (signed_by b x) (signed_by b y)) (signed_by b (add f x y))
signed-plus f true x y = neg-plus f x y
signed-plus f false x y = alike_refl _

signed-less : (f : Format) (b : Bool) (x y : Float) → Alike (sub f (signed_by b x) (signed_by b y)) (signed_by b (sub f x y))
unfolding sub
signed-less f true x y = neg-plus f x (neg y)
signed-less f false x y = alike_refl _

signed-times : (f : Format) (b c : Bool) (x y : Float) → mul f (signed_by b x) (signed_by c y) ≡ signed_by (unlike b c) (mul f x y)
signed-times f true true x y = neg-times f x (neg y) ∙ ap neg (times-neg f x y) ∙ neg-neg (mul f x y)
signed-times f true false x y = neg-times f x y
signed-times f false true x y = times-neg f x y
signed-times f false false x y = refl

signed-over : (f : Format) (b : Bool) (x y : Float) → div f (signed_by b x) y ≡ signed_by b (div f x y)
signed-over f true x y = neg-over f x y
signed-over f false x y = refl

signed-neg : (b : Bool) (x : Float) → neg (signed_by b x) ≡ signed_by b (neg x)
signed-neg true x = refl
signed-neg false x = refl

signed_abs : (b : Bool) (x : Float) → abs_of (signed_by b x) ≡ abs_of x
unfolding neg
signed_abs true nan = refl
signed_abs true (inf s) = refl
signed_abs true (fin s m e) = refl
signed_abs false x = refl

signed-nan : (b : Bool) (x : Float) → is_nan (signed_by b x) ≡ is_nan x
unfolding is_nan neg
signed-nan true nan = refl
signed-nan true (inf s) = refl
signed-nan true (fin s m e) = refl
signed-nan false x = refl

signed_zero : (b : Bool) → Alike plus_zero (signed_by b plus_zero)
unfolding neg of_bits
signed_zero true = record { flatly = refl }
signed_zero false = record { flatly = refl }

-- a NaN faces a NaN either way
pub nan_facing : (b : Bool) → Facing b nan nan
unfolding neg
nan_facing true = record { alike = alike_refl nan }
nan_facing false = record { alike = alike_refl nan }

-- and so does a zero
pub zero_facing : (b : Bool) {z : Float} → Alike z plus_zero → Facing b z plus_zero
zero_facing b p = record { alike = alike_trans p (signed_zero b) }

module _ {b : Bool} {x x' y y' : Float} where
  pub add_facing : (f : Format) → Facing b x x' → Facing b y y' → Facing b (add f x y) (add f x' y')
  add_facing f p q = record { alike = alike_trans (add_alike f p.alike q.alike) (signed-plus f b x' y') }

  pub sub_facing : (f : Format) → Facing b x x' → Facing b y y' → Facing b (sub f x y) (sub f x' y')
  sub_facing f p q = record { alike = alike_trans (sub_alike f p.alike q.alike) (signed-less f b x' y') }

  pub mul_facing : (f : Format) {c d : Bool} → unlike b c ≡ d → Facing b x x' → Facing c y y' → Facing d (mul f x y) (mul f x' y')
  mul_facing f {c} {d} e p q =
      let signed = signed-times f b c x' y' ∙ ap (λ (s : Bool). signed_by s (mul f x' y')) e in
      record { alike = alike_trans (mul_alike f p.alike q.alike) (alike_of_eq signed) }

  -- a divisor that is not zero
  pub div_facing : (f : Format) → Facing b x x' → Alike y y' → T (not (is_zero y)) → Facing b (div f x y) (div f x' y')
  div_facing f p q h = record { alike = alike_trans (div_alike f p.alike q h) (alike_of_eq (signed-over f b x' y')) }

module _ {b : Bool} {x x' : Float} (p : Facing b x x') where
  pub neg_facing : Facing b (neg x) (neg x')
  neg_facing = record { alike = alike_trans (neg_alike p.alike) (alike_of_eq (signed-neg b x')) }

  pub abs_facing : Alike (abs_of x) (abs_of x')
  abs_facing = alike_trans (abs_alike p.alike) (alike_of_eq (signed_abs b x'))

  pub nan_same : is_nan x ≡ is_nan x'
  nan_same = nan_alike p.alike ∙ signed-nan b x'

pub pick_facing : {b t t' : Bool} {x x' y y' : Float} → t ≡ t' → Facing b x x' → Facing b y y' → Facing b (pick t x y) (pick t' x' y')
pick_facing {b} {t} {t'} {x} {x'} {y} {y'} e p q = subst (λ (u : Bool). Facing b (pick t x y) (pick u x' y')) e (go t)
  where
    go : (t : Bool) → Facing b (pick t x y) (pick t x' y')
    go true = p
    go false = q

-- running sums
pub sum_facing : (f : Format) (b : Bool) (v w : ℕ → Float) (k : ℕ) {y z : Float} → Facing b y z → ((j : ℕ) → Facing b (v j) (w j))
    → Facing b (sum_from f y v k) (sum_from f z w k)
unfolding sum_from
sum_facing f b v w zero p h = p
sum_facing f b v w (suc k) p h = add_facing f (sum_facing f b v w k p h) (h k)

-- the order by magnitude cannot see a sign
above_picks : (a b : Float) → above_of a b ≡ pick (is_nan a) (not (is_nan b)) (lt (abs_of b) (abs_of a))
unfolding above_of is_nan
above_picks nan b = refl
above_picks (inf s) b = refl
above_picks (fin s m e) b = refl

pub above_same : {s t : Bool} {a a' b b' : Float} → Facing s a a' → Facing t b b' → above_of a b ≡ above_of a' b'
above_same {s} {t} {a} {a'} {b} {b'} p q =
    above_picks a b ∙ (λ i. pick (nan_same p i) (not (nan_same q i)) (lt_alike (abs_facing q) (abs_facing p) i)) ∙ sym (above_picks a' b')

-- ---- the largest magnitude is the same, to the bit: it is +0.0, or a value that is no zero

-- not negative, and no NaN
record Plain (r : Float) : Type 0 where
  pub num : T (is_num r)
  pub plus : sign r ≡ false

plain_zero : Plain plus_zero
unfolding of_bits
plain_zero = record { num = tt; plus = refl }

-- nothing that is not negative is below a zero
not_under : (r y : Float) → Plain r → T (is_zero y) → lt r y ≡ false
unfolding lt
not_under r nan p z = absurd z
not_under r (inf s) p z = absurd z
not_under r (fin s (suc m) e) p z = absurd z
not_under nan (fin s zero e) p z = refl
not_under (inf t) (fin s zero e) p z = p.plus
not_under (fin t n d) (fin true zero e) p z = rw p.plus
not_under (fin t n d) (fin false zero e) p z = rw (p.plus, zero_times (up e) (down d)) (ltb_no (n * up d * down e) 0 (omega arith))

larger_chosen : (r y : Float) → Plain r → (t : Bool) → lt r (abs_of y) ≡ t → Plain (pick t (abs_of y) r)
larger_chosen r y p false e = p
larger_chosen r nan p true e = absurd (true≢false (sym e ∙ none_below r))
larger_chosen r (inf s) p true e = record { num = tt; plus = refl }
larger_chosen r (fin s m d) p true e = record { num = tt; plus = refl }

larger_plain : (r y : Float) → Plain r → Plain (larger_of r (abs_of y))
unfolding larger_of is_nan
larger_plain nan y p = absurd p.num
larger_plain (inf s) y p = larger_chosen (inf s) y p (lt (inf s) (abs_of y)) refl
larger_plain (fin s m d) y p = larger_chosen (fin s m d) y p (lt (fin s m d) (abs_of y)) refl

max_abs_plain : (v : ℕ → Float) (k : ℕ) → Plain (max_abs_to v k)
unfolding max_abs_to
max_abs_plain v zero = plain_zero
max_abs_plain v (suc k) = larger_plain (max_abs_to v k) (v k) (max_abs_plain v k)

larger_kept : (r y : Float) → Plain r → lt r y ≡ false → larger_of r y ≡ r
unfolding larger_of is_nan
larger_kept nan y p e = absurd p.num
larger_kept (inf s) y p e = ap (λ (t : Bool). pick t y (inf s)) e
larger_kept (fin s m d) y p e = ap (λ (t : Bool). pick t y (fin s m d)) e

larger_same : (r y y' : Float) → Plain r → Alike y y' → larger_of r y ≡ larger_of r y'
larger_same r y y' p q = go (is_zero y) refl
  where
    go : (t : Bool) → is_zero y ≡ t → larger_of r y ≡ larger_of r y'
    go true e =
        let o : lt r y ≡ false = not_under r y p (subst (λ (b : Bool). T b) (sym e) tt) in
        larger_kept r y p o ∙ sym (larger_kept r y' p (sym (lt_alike (alike_refl r) q) ∙ o))
    go false e = ap (larger_of r) (alike_nonzero q (subst (λ (b : Bool). T (not b)) (sym e) tt))

pub max_abs_same : (s : ℕ → Bool) (v w : ℕ → Float) (k : ℕ) → ((j : ℕ) → Facing (s j) (v j) (w j)) → max_abs_to v k ≡ max_abs_to w k
unfolding max_abs_to
max_abs_same s v w zero h = refl
max_abs_same s v w (suc k) h =
    larger_same (max_abs_to v k) (abs_of (v k)) (abs_of (w k)) (max_abs_plain v k) (abs_facing (h k))
    ∙ ap (λ (r : Float). larger_of r (abs_of (w k))) (max_abs_same s v w k h)
