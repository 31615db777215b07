-- One turn of each loop, over plain numbers and lists.
use Prim.Native.Nat.{ℕ, zero, suc, ◌+◌, ◌*◌, ◌-◌, ◌/◌, ◌%◌, ◌^◌, ◌≤◌, ◌<◌}
use mathlib.Core.Path.{◌≡◌, refl, sym, ap, ◌∙◌}
use mathlib.Core.Bool.{Bool, true, false}
use mathlib.Core.List.{List, ◌∷◌, ◌++◌, append-nil}
use native.Mathlib.Nat.{mul-le-mul_left, pow-suc, pow-le-pow_right}
use native.Mathlib.Omega.{arith}
use lib.ListN.{length, take, drop, set, length-set}
use lib.Seq.{length-take-le, set_split, drop_at, drop-length, append_snoc}
use Rattle.seq.specs.Choice.{pick}
use Rattle.fields.specs.Bytes.{byte_at}
use Rattle.fields.specs.Digits.{is_digit, digit_for, number_at, digits_of}
use Rattle.fields.specs.Fields.{digits_from, width_at}
use Rattle.fields.specs.Texts.{width_in, width_of}
use Rattle.fields.proofs.Values.{value_most}
use Rattle.fields.proofs.Widths.{one_wide, more_wide}

-- k digits say less than 16 ^ k
pub number_small : (base : ℕ) (t : List ℕ) (i k : ℕ) → base ≤ 16 → number_at base t i k < 16 ^ k
unfolding number_at
number_small base t i zero h = omega arith
number_small base t i (suc k) h =
    omega (arith, pow-suc 16 k, value_most (byte_at t (i + k)), number_small base t i k h, mul-le-mul_left (number_at base t i k) h)

-- fewer than sixteen digits leave room for one more in 64 bits
pub number_room : (base : ℕ) (t : List ℕ) (i k : ℕ) → base ≤ 16 → k < 16 → number_at base t i k * base + 15 ≤ 18446744073709551615
number_room base t i k h g =
    let q : k ≤ 15 = omega arith in
    let p : 16 ^ k ≤ 16 ^ 15 = pow-le-pow_right {n = 16} (omega arith) q in
    omega (arith, p, number_small base t i k h, mul-le-mul_left (number_at base t i k) h)

-- what is left to write, and what is written already: the last digits stand from k on
pub record Writing (base x : ℕ) (w : List ℕ) (rest k : ℕ) (v : List ℕ) : Type 0 where
  pub upto : k ≤ length w
  pub long : length v ≡ length w
  pub is : digits_of base x (length w) ≡ digits_of base rest k ++ drop k v

pub writing_start : (base x : ℕ) (w : List ℕ) → Writing base x w x (length w) w
writing_start base x w =
    record { upto = omega arith; long = refl; is = rw (drop-length w) (sym (append-nil (digits_of base x (length w)))) }

-- one digit more of what is left is the last digit of the rest
more_digits : (base rest j d : ℕ) (v : List ℕ) → j < length v → d ≡ digit_for (rest % base)
    → digits_of base rest (suc j) ++ drop (suc j) v ≡ digits_of base (rest / base) j ++ drop j (set v j d)
unfolding digits_of
more_digits base rest j d v h g =
    rw (set_split v j d h, drop_at (take j v) (d ∷ drop (suc j) v) j (length-take-le j v (omega arith)), g)
    (append_snoc (digits_of base (rest / base) j) (digit_for (rest % base)) (drop (suc j) v))

pub writing_turn : {base x : ℕ} {w v : List ℕ} {rest k : ℕ} {d : ℕ} → Writing base x w rest k v → 0 < k → d ≡ digit_for (rest % base)
    → Writing base x w (rest / base) (k - 1) (set v (k - 1) d)
writing_turn {base} {x} {w} {v} {rest} {k} {d} e h g =
    let p : k ≡ suc (k - 1) = omega arith in
    let q : digits_of base rest k ++ drop k v ≡ digits_of base rest (suc (k - 1)) ++ drop (suc (k - 1)) v =
    ap (λ (n : ℕ). digits_of base rest n ++ drop n v) p in
    record {
      upto = omega (arith, e.upto);
      long = length-set v (k - 1) d ∙ e.long;
      is = e.is ∙ q ∙ more_digits base rest (k - 1) d v (omega (arith, e.upto, e.long)) g;
    }

pub writing_whole : {base x : ℕ} {w v : List ℕ} {rest k : ℕ} → Writing base x w rest k v → k ≤ 0 → v ≡ digits_of base x (length w)
unfolding digits_of
writing_whole {base} {x} {w} {v} {rest} {k} e h =
    let p : k ≡ 0 = omega arith in
    sym (e.is ∙ ap (λ (n : ℕ). digits_of base rest n ++ drop n v) p)

-- how many digits there are, when w of them are passed: w, and those that stand from there
pub record Passing (t : List ℕ) (i w : ℕ) : Type 0 where
  pub upto : w ≤ 11
  pub is : width_at t i ≡ w + digits_from t (i + w) (11 - w)

pub passing_start : (t : List ℕ) (i : ℕ) → Passing t i 0
passing_start t i =
    let p : i + 0 ≡ i = omega arith in
    record { upto = omega arith; is = rw p (omega arith) }

pub more-from : (t : List ℕ) (i k : ℕ) → is_digit (byte_at t i) ≡ true → digits_from t i (suc k) ≡ suc (digits_from t (suc i) k)
unfolding digits_from
more-from t i k h = ap (λ (s : Bool). pick s (suc (digits_from t (suc i) k)) 0) h

pub none_from : (t : List ℕ) (i k : ℕ) → is_digit (byte_at t i) ≡ false → digits_from t i (suc k) ≡ 0
unfolding digits_from
none_from t i k h = ap (λ (s : Bool). pick s (suc (digits_from t (suc i) k)) 0) h

pub passing_turn : {t : List ℕ} {i w : ℕ} → Passing t i w → w < 11 → is_digit (byte_at t (i + w)) ≡ true → Passing t i (w + 1)
passing_turn {t} {i} {w} e h g =
    let p : 11 - w ≡ suc (11 - (w + 1)) = omega arith in
    let q : suc (i + w) ≡ i + (w + 1) = omega arith in
    let r : digits_from t (i + w) (11 - w) ≡ suc (digits_from t (i + (w + 1)) (11 - (w + 1))) =
    ap (digits_from t (i + w)) p ∙ more-from t (i + w) (11 - (w + 1)) g
    ∙ ap (λ (n : ℕ). suc (digits_from t n (11 - (w + 1)))) q in
    record { upto = omega arith; is = e.is ∙ omega (arith, r) }

pub passing_left : {t : List ℕ} {i w : ℕ} → Passing t i w → w < 11 → is_digit (byte_at t (i + w)) ≡ false → w ≡ width_at t i
passing_left {t} {i} {w} e h g =
    let p : 11 - w ≡ suc (11 - (w + 1)) = omega arith in
    let r : digits_from t (i + w) (11 - w) ≡ 0 =
    ap (digits_from t (i + w)) p ∙ none_from t (i + w) (11 - (w + 1)) g in
    omega (arith, r, e.is)

pub passing_whole : {t : List ℕ} {i w : ℕ} → Passing t i w → 11 ≤ w → w ≡ width_at t i
unfolding digits_from
passing_whole {t} {i} {w} e h =
    let p : 11 - w ≡ 0 = omega (arith, e.upto) in
    let r : digits_from t (i + w) (11 - w) ≡ 0 = ap (digits_from t (i + w)) p in
    omega (arith, r, e.is)

-- how many digits there are, when all but the last w - 1 are left
pub record Dividing (x rest w : ℕ) : Type 0 where
  pub low : 1 ≤ w
  pub high : w ≤ 20
  pub is : width_of x + 1 ≡ w + width_in (20 - w) rest
  pub small : rest < 10 ^ suc (20 - w)

pub dividing_start : (x : ℕ) → x ≤ 18446744073709551615 → Dividing x x 1
dividing_start x h = record { low = omega arith; high = omega arith; is = omega arith; small = omega arith }

pub dividing_turn : {x rest w : ℕ} → Dividing x rest w → 9 < rest → Dividing x (rest / 10) (w + 1)
dividing_turn {x} {rest} {w} e h = go (20 - w) refl
  where
    go : (j : ℕ) → 20 - w ≡ j → Dividing x (rest / 10) (w + 1)
    go zero g =
        let s : rest < 10 ^ suc 0 = rw g at e.small in
        absurd (omega arith)
    go (suc j) g =
        let s : rest < 10 ^ suc (suc j) = rw g at e.small in
        let r : width_of x + 1 ≡ w + width_in (suc j) rest = rw g at e.is in
        let p : 20 - (w + 1) ≡ j = omega arith in
        record {
          low = omega arith;
          high = omega arith;
          is = rw p (omega (arith, r, more_wide j rest h));
          small = rw p (omega (arith, s, pow-suc 10 (suc j)));
        }

pub dividing_whole : {x rest w : ℕ} → Dividing x rest w → rest ≤ 9 → w ≡ width_of x
dividing_whole {x} {rest} {w} e h = omega (arith, e.is, one_wide (20 - w) rest (omega arith))
