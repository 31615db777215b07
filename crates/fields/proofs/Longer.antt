-- A longer text: what stands within a text stands there still where more follows it.
use Prim.Native.Nat.{ℕ, zero, suc, ◌+◌, ◌≤◌, ◌<◌}
use mathlib.Core.Path.{◌≡◌, refl, ap}
use mathlib.Core.Bool.{Bool, true, false, ◌||◌}
use mathlib.Core.List.{List, ◌++◌}
use native.Mathlib.Omega.{arith}
use lib.Dec.{eqb}
use lib.ListN.{length, get_or-append}
use Rattle.seq.specs.Choice.{pick}
use Rattle.fields.specs.Bytes.{byte_at, spelled}
use Rattle.fields.specs.Digits.{is_digit, is_letter, number_at}
use Rattle.fields.specs.Fields.{is_bits, bits_at, digits_from, width_at, has_count, count_at}
use Rattle.seq.proofs.Every.{every_same}
use Rattle.fields.proofs.Widths.{width_at-most}

pub byte_longer : (t more : List ℕ) (i : ℕ) → i < length t → byte_at (t ++ more) i ≡ byte_at t i
byte_longer t more i h = get_or-append t more 0 i h

pub spelled_longer : (word t more : List ℕ) (i : ℕ) → i + length word ≤ length t → spelled word (t ++ more) i ≡ spelled word t i
unfolding spelled
spelled_longer word t more i h =
    every_same (λ k. eqb (byte_at (t ++ more) (i + k)) (byte_at word k)) (λ k. eqb (byte_at t (i + k)) (byte_at word k)) (length word)
    (λ j g. ap (λ (b : ℕ). eqb b (byte_at word j)) (byte_longer t more (i + j) (omega arith)))

pub bits_longer : (t more : List ℕ) (i : ℕ) → i + 16 ≤ length t → is_bits (t ++ more) i ≡ is_bits t i
unfolding is_bits
bits_longer t more i h =
    every_same (λ k. is_digit (byte_at (t ++ more) (i + k)) || is_letter (byte_at (t ++ more) (i + k)))
    (λ k. is_digit (byte_at t (i + k)) || is_letter (byte_at t (i + k))) 16
    (λ j g. ap (λ (b : ℕ). is_digit b || is_letter b) (byte_longer t more (i + j) (omega arith)))

pub number_longer : (base : ℕ) (t more : List ℕ) (i k : ℕ) → i + k ≤ length t → number_at base (t ++ more) i k ≡ number_at base t i k
unfolding number_at
number_longer base t more i zero h = refl
number_longer base t more i (suc k) h =
    rw (number_longer base t more i k (omega arith), byte_longer t more (i + k) (omega arith))

pub bits-at_longer : (t more : List ℕ) (i : ℕ) → i + 16 ≤ length t → bits_at (t ++ more) i ≡ bits_at t i
bits-at_longer t more i h = rw (number_longer 16 t more i 16 h)

-- digits that end before the text does
pub digits_longer : (t more : List ℕ) (i k : ℕ) → i + digits_from t i k < length t → digits_from (t ++ more) i k ≡ digits_from t i k
unfolding digits_from
digits_longer t more i zero h = refl
digits_longer t more i (suc k) h = go (is_digit (byte_at t i)) refl h (digits_longer t more (suc i) k)
  where
    go : (s : Bool) → is_digit (byte_at t i) ≡ s → i + pick s (suc (digits_from t (suc i) k)) 0 < length t
        → (suc i + digits_from t (suc i) k < length t → digits_from (t ++ more) (suc i) k ≡ digits_from t (suc i) k)
        → pick (is_digit (byte_at (t ++ more) i)) (suc (digits_from (t ++ more) (suc i) k)) 0 ≡ pick (is_digit (byte_at t i)) (suc (digits_from t (suc i) k)) 0
    go true e g r = rw (byte_longer t more i (omega arith), e, r (omega arith))
    go false e g r = rw (byte_longer t more i (omega arith), e)

-- a count that ends before the text does
pub width_longer : (t more : List ℕ) (i : ℕ) → i + width_at t i < length t → width_at (t ++ more) i ≡ width_at t i
width_longer t more i h = digits_longer t more i 11 h

pub count_longer : (t more : List ℕ) (i : ℕ) → i + width_at t i < length t → count_at (t ++ more) i ≡ count_at t i
count_longer t more i h =
    rw (width_longer t more i h, number_longer 10 t more i (width_at t i) (omega arith))

pub has-count_longer : (t more : List ℕ) (i : ℕ) → i + width_at t i < length t → has_count (t ++ more) i ≡ has_count t i
has-count_longer t more i h =
    rw (width_longer t more i h, number_longer 10 t more i (width_at t i) (omega arith), byte_longer t more i (omega arith))

pub count_longer_12 : (t more : List ℕ) (i : ℕ) → i + 12 ≤ length t → count_at (t ++ more) i ≡ count_at t i
count_longer_12 t more i h = count_longer t more i (omega (arith, width_at-most t i))

pub has-count_longer_12 : (t more : List ℕ) (i : ℕ) → i + 12 ≤ length t → has_count (t ++ more) i ≡ has_count t i
has-count_longer_12 t more i h = has-count_longer t more i (omega (arith, width_at-most t i))
