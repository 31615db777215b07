-- A pass over at most 256 normalised entries, each kept, doubled once or twice, or zeroed: the sum of magnitudes after it is finite and, where a nonzero
-- entry is kept, above zero. So what is divided by it is normalised again, signs are kept, and where an entry is zeroed strictly fewer are nonzero.
use mathlib.Core.Path.{◌≡◌, sym, ap, ◌∙◌, subst}
use Prim.Native.Nat.{ℕ, zero, suc, ◌+◌, ◌*◌, ◌^◌, ◌≤◌, ◌<◌, zero-le}
use native.Mathlib.Nat.{le_trans, le_of_eq, le_of_lt, lt_of_lt_of_le, lt_of_le_of_lt, mul-le-mul_right}
use native.Mathlib.Omega.{arith}
use mathlib.Core.Bool.{Bool, true, false}
use lib.Dec.{T, ltb→lt}
use lib.Pow.{pow-add, pow-lt, pow_mono}
use lib.Ieee.{Float, Format, mul, div, eq, ne, low, prec, emax}
use lib.Ieee.Scale.{overflow}
use Rattle.seq.specs.Choice.{pick}
use Rattle.ieee.specs.Magnitude.{abs_of}
use Rattle.ieee.specs.Pass.{Turned, kept, once, again, gone}
use Rattle.ieee.specs.Units.{mag}
use Rattle.ieee.proofs.Units.{digits_room, exponents_room}
use Rattle.ieee.proofs.Ops.{Finite, Positive, finite_number, inside_finite, twice}
use Rattle.ieee.proofs.Signs.{Follows, SameSign, div_number, follows_div, follows_nought, follows_self, follows_trans, follows_twice}
use Rattle.ieee.proofs.Signs.{mag-nought, nonzero, nonzero_is, nought, nought-finite, same_sign, twice-exact, twice-finite}
use Rattle.ieee.proofs.Sums.{abs_mag, abs_size, sum_bound}
use Rattle.ieee.proofs.Norms.{l1, l1_ge, l1-size}
use Rattle.ieee.proofs.Normalised.{Normal, normalised}

pub record Passed (f : Format) (x z : Float) : Type 0 where
  pub ends : Finite f z
  pub small : mag f z ≤ 2 ^ (low f + 2)
  pub follows : Follows f x z

four : (l : ℕ) → 2 ^ (l + 2) ≡ 2 * (2 * 2 ^ l)
four l = pow-add 2 l 2 ∙ (let g : 2 ^ l * 4 ≡ 2 * (2 * 2 ^ l) = omega arith in g)

four_inside : (f : Format) → 2 ^ (low f + 2) < overflow f
four_inside f = pow-lt (let r = exponents_room f in let g : low f + 2 < low f + suc (emax f) = omega arith in g)

pub passed : {f : Format} {x z : Float} → Finite f x → mag f x ≤ 2 ^ low f → Turned f x z → Passed f x z
passed {f} {x} p h kept = record { ends = p; small = le_trans h (pow_mono (let g : low f ≤ low f + 2 = omega arith in g)); follows = follows_self f x }
passed {f} {x} p h once =
    let e = four (low f) in
    let o = four_inside f in
    let i : 2 * mag f x < overflow f = omega arith in
    record {
      ends = twice-finite p i;
      small = le_trans (le_of_eq (twice-exact p i)) (let g : 2 * mag f x ≤ 2 ^ (low f + 2) = omega arith in g);
      follows = follows_twice p;
    }
passed {f} {x} p h again =
    let e = four (low f) in
    let o = four_inside f in
    let i : 2 * mag f x < overflow f = omega arith in
    let q = twice-finite p i in
    let d = twice-exact p i in
    let i' : 2 * mag f (mul f twice x) < overflow f = omega arith in
    record {
      ends = twice-finite q i';
      small = le_trans (le_of_eq (twice-exact q i')) (let g : 2 * mag f (mul f twice x) ≤ 2 ^ (low f + 2) = omega arith in g);
      follows = follows_trans (follows_twice p) (follows_twice q);
    }
passed {f} {x} p h gone = record { ends = nought-finite f false; small = le_trans (le_of_eq (mag-nought f false)) zero-le; follows = follows_nought f x false }

-- ---- the pass
module _ (f : Format) (k : ℕ) (x z : ℕ → Float) (n : Normal f k x) (turned : (j : ℕ) → j < k → Turned f (x j) (z j)) where
  pub pass_ends : (j : ℕ) → j < k → Finite f (z j)
  pass_ends j l = (passed (n.ends j l) (n.small j l) (turned j l)).ends

  pub pass_finite : k ≤ 2 ^ 8 → Finite f (l1 f z k)
  pass_finite K =
      let r = exponents_room f in
      let d = digits_room f in
      let o : k * 2 ^ (low f + 2) < overflow f =
      lt_of_le_of_lt (le_trans (mul-le-mul_right (2 ^ (low f + 2)) K) (le_of_eq (sym (pow-add 2 8 (low f + 2)))))
      (pow-lt (let g : 8 + (low f + 2) < low f + suc (emax f) = omega arith in g)) in
      inside_finite (l1-size f z k pass_ends).number
      (lt_of_le_of_lt
      (sum_bound f (λ (j : ℕ). abs_of (z j)) (low f + 2) k (λ j l. abs_size (finite_number (pass_ends j l)))
      (λ j l. le_trans (le_of_eq (abs_mag f (z j))) (passed (n.ends j l) (n.small j l) (turned j l)).small)
      (lt_of_le_of_lt K (pow-lt (let g : 8 < prec f = omega arith in g))) o)
      o)

  -- an entry that is kept and not zero
  pub pass_positive : k ≤ 2 ^ 8 → (i : ℕ) → i < k → z i ≡ x i → T (nonzero (x i)) → Positive f (l1 f z k)
  pass_positive K i l e t =
      record {
        fin = pass_finite K;
        plus = (l1-size f z k pass_ends).plus;
        some = lt_of_lt_of_le (ltb→lt 0 (mag f (x i)) (subst T (nonzero_is (finite_number (n.ends i l))) t))
            (le_trans (le_of_eq (ap (mag f) (sym e))) (l1_ge f z k pass_ends i l));
      }

  -- what comes out is normalised again, so the next pass has the same to start from
  pub pass_normal : Positive f (l1 f z k) → Normal f k (λ (j : ℕ). div f (z j) (l1 f z k))
  pass_normal p = normalised f z k pass_ends p

  -- an entry that is not zero after the pass was not before, and has the sign that it had
  pub pass_signs : Positive f (l1 f z k) → (j : ℕ) → j < k → T (nonzero (div f (z j) (l1 f z k))) → SameSign (x j) (div f (z j) (l1 f z k))
  pass_signs p j l t =
      same_sign (finite_number (n.ends j l)) (div_number (pass_ends j l) p)
      (follows_trans (passed (n.ends j l) (n.small j l) (turned j l)).follows (follows_div (pass_ends j l) p)) t

-- ---- x becomes y in one pass
pub record Step (f : Format) (k : ℕ) (x y : ℕ → Float) : Type 0 where
  pub turned : ℕ → Float
  pub each : (j : ℕ) → j < k → Turned f (x j) (turned j)
  -- some entry is in the support and is kept
  pub keeps : ℕ
  pub inside : keeps < k
  pub kept_as : turned keeps ≡ x keeps
  pub support : T (nonzero (x keeps))
  pub divided : (j : ℕ) → j < k → y j ≡ div f (turned j) (l1 f turned k)

pub step_sum : {f : Format} {k : ℕ} {x y : ℕ → Float} → Normal f k x → k ≤ 2 ^ 8 → (s : Step f k x y) → Positive f (l1 f s.turned k)
step_sum {f} {k} {x} n K s = pass_positive f k x s.turned n s.each K s.keeps s.inside s.kept_as s.support

pub step_normal : {f : Format} {k : ℕ} {x y : ℕ → Float} → Normal f k x → k ≤ 2 ^ 8 → Step f k x y → Normal f k y
step_normal {f} {k} {x} {y} n K s =
    let q = pass_normal f k x s.turned n s.each (step_sum n K s) in
    record {
      ends = λ j l. subst (Finite f) (sym (s.divided j l)) (q.ends j l);
      small = λ j l. subst (λ (z : Float). mag f z ≤ 2 ^ low f) (sym (s.divided j l)) (q.small j l);
    }

-- every stage is normalised: the sum after a pass is never zero, infinite or a NaN
pub stages : (f : Format) (k n : ℕ) (w : ℕ → Float) (stage : ℕ → ℕ → Float) → k ≤ 2 ^ 8
    → ((j : ℕ) → j < k → Finite f (w j)) → Positive f (l1 f w k) → ((j : ℕ) → j < k → stage 0 j ≡ div f (w j) (l1 f w k))
    → ((i : ℕ) → i < n → Step f k (stage i) (stage (suc i)))
    → (i : ℕ) → i ≤ n → Normal f k (stage i)
stages f k n w stage K h p z s zero l =
    let q = normalised f w k h p in
    record {
      ends = λ j l. subst (Finite f) (sym (z j l)) (q.ends j l);
      small = λ j l. subst (λ (y : Float). mag f y ≤ 2 ^ low f) (sym (z j l)) (q.small j l);
    }
stages f k n w stage K h p z s (suc i) l = step_normal (stages f k n w stage K h p z s i (le_of_lt l)) K (s i l)

-- ---- the two turns of a pass, as the program makes them: double or zero; then once more where the entry is not zero
abbrev pub turn : Format → Bool → Float → Float
turn f c x = pick c (mul f twice x) nought

pub turns : (f : Format) (c c' : Bool) (x : Float) → Turned f x (pick (nonzero (turn f c x)) (turn f c' (turn f c x)) (turn f c x))
turns f true c' x = go (nonzero (mul f twice x)) c'
  where
    go : (b c' : Bool) → Turned f x (pick b (turn f c' (mul f twice x)) (mul f twice x))
    go true true = again
    go true false = gone
    go false c' = once
turns f false c' x = unfold ne eq in gone
