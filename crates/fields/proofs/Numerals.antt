-- Digits there and back, at any base to 16 and of any width: the digits of the number that digits say are those digits, and digits of a number say it.
use Prim.Native.Nat.{ℕ, zero, suc, ◌+◌, ◌*◌, ◌/◌, ◌%◌, ◌^◌, ◌≤◌, ◌<◌}
use mathlib.Core.Path.{◌≡◌, refl, sym, ap, ◌∙◌}
use mathlib.Core.List.{List, [], ◌∷◌, ◌++◌}
use native.Mathlib.Nat.{mod-lt, mod-eq_of_lt, div-eq_of_lt, mul-add-div_right, mul-add-mod_self_right, div-add-mod', div-lt_iff_lt-mul}
use native.Mathlib.Nat.{mul-le-mul_right, pow-zero, pow-suc}
use native.Mathlib.Decide.{dec_lt}
use native.Mathlib.Omega.{arith}
use lib.ListN.{length, get_or, take, drop, length-drop, get_or-eq_default}
use lib.Seq.{take-suc, take-take, take_at, get_or_at, get_or-drop}
use Rattle.seq.specs.Lists.{part}
use Rattle.seq.proofs.Parts.{get_d_part}
use Rattle.fields.specs.Bytes.{byte_at}
use Rattle.fields.specs.Digits.{digit_value, digit_for, number_at, digits_of}
use Rattle.fields.proofs.Values.{Says, says_back, says_positive, value_back}
use Rattle.fields.proofs.Widths.{length_digits}

-- a byte that is not 0 is one of the text's
pub inside : (t : List ℕ) (i : ℕ) → 0 < byte_at t i → i < length t
inside t i h = go (dec_lt i (length t))
  where
    go : Dec (i < length t) → i < length t
    go (yes g) = g
    go (no g) =
        let l : length t ≤ i = omega arith in
        absurd (omega (arith, get_or-eq_default t 0 l))

-- k digits of the base say less than base ^ k
pub number_below : (base : ℕ) (t : List ℕ) (i k : ℕ) → ((j : ℕ) → j < k → Says base (byte_at t (i + j))) → number_at base t i k < base ^ k
unfolding number_at
number_below base t i zero h = omega (arith, pow-zero base)
number_below base t i (suc k) h =
    let r : suc (number_at base t i k) * base ≤ base ^ k * base =
    mul-le-mul_right base (number_below base t i k (λ j g. h j (omega arith))) in
    omega (arith, r, (h k (omega arith)).below, pow-suc base k)

-- one byte more of a part
part_suc : (t : List ℕ) (i k : ℕ) → i + k < length t → part i (suc k) t ≡ part i k t ++ (byte_at t (i + k) ∷ [])
part_suc t i k h =
    let l : k < length (drop i t) = rw (length-drop i t) (omega arith) in
    take-suc (drop i t) k 0 l ∙ ap (λ (b : ℕ). part i k t ++ (b ∷ [])) (get_or-drop i t k 0)

-- what is read is what would be written
pub digits_of_number : (base : ℕ) (t : List ℕ) (i k : ℕ) → ((j : ℕ) → j < k → Says base (byte_at t (i + j)))
    → part i k t ≡ digits_of base (number_at base t i k) k
unfolding number_at digits_of
digits_of_number base t i zero h = refl
digits_of_number base t i (suc k) h =
    let s : Says base (byte_at t (i + k)) = h k (omega arith) in
    let p : 0 < base = omega (arith, s.below) in
    let n : ℕ = number_at base t i k in
    let d : ℕ = digit_value (byte_at t (i + k)) in
    let q : (n * base + d) / base ≡ n = mul-add-div_right p n d ∙ omega (arith, div-eq_of_lt s.below) in
    let r : (n * base + d) % base ≡ d = mul-add-mod_self_right n base d ∙ mod-eq_of_lt s.below in
    rw (part_suc t i k (inside t (i + k) (says_positive s)), q, r, s.back)
    (ap (λ (l : List ℕ). l ++ (byte_at t (i + k) ∷ [])) (digits_of_number base t i k (λ j g. h j (omega arith))))

-- a part that ends with a byte: what is before it, and the byte
part_front : (t l : List ℕ) (i k d : ℕ) → length l ≡ k → part i (suc k) t ≡ l ++ (d ∷ []) → (part i k t ≡ l) × (byte_at t (i + k) ≡ d)
part_front t l i k d e h = (
  sym (take-take k (suc k) (drop i t) (omega arith)) ∙ ap (take k) h ∙ take_at l (d ∷ []) k e,
  sym (get_d_part i (suc k) k t 0 (omega arith)) ∙ ap (λ (s : List ℕ). get_or s k 0) h ∙ get_or_at l d [] 0 k e,
)

-- what is written is read
pub number_of_digits : (base x : ℕ) (t : List ℕ) (i k : ℕ) → 0 < base → base ≤ 16 → x < base ^ k → part i k t ≡ digits_of base x k
    → number_at base t i k ≡ x
unfolding number_at digits_of
number_of_digits base x t i zero p q h e = omega (arith, pow-zero base)
number_of_digits base x t i (suc k) p q h e =
    let f = part_front t (digits_of base (x / base) k) i k (digit_for (x % base)) (length_digits base (x / base) k) e in
    let g : x < base ^ k * base = rw (pow-suc base k) at h in
    let r : number_at base t i k ≡ x / base = number_of_digits base (x / base) t i k p q ((div-lt_iff_lt-mul p).1 g) f.0 in
    let m : x % base < base = mod-lt x p in
    let v : digit_value (byte_at t (i + k)) ≡ x % base = ap digit_value f.1 ∙ value_back (x % base) (omega arith) in
    rw (r, v) (div-add-mod' x base)

-- and each byte of it is a digit of the base
pub digits_say : (base x : ℕ) (t : List ℕ) (i k : ℕ) → 0 < base → base ≤ 16 → part i k t ≡ digits_of base x k
    → (j : ℕ) → j < k → Says base (byte_at t (i + j))
unfolding digits_of
digits_say base x t i zero p q e j h = absurd (omega arith)
digits_say base x t i (suc k) p q e j h = go (dec_lt j k) (digits_say base (x / base) t i k p q f.0 j)
  where
    f : (part i k t ≡ digits_of base (x / base) k) × (byte_at t (i + k) ≡ digit_for (x % base))
    f = part_front t (digits_of base (x / base) k) i k (digit_for (x % base)) (length_digits base (x / base) k) e

    go : Dec (j < k) → (j < k → Says base (byte_at t (i + j))) → Says base (byte_at t (i + j))
    go (yes g) r = r g
    go (no g) r =
        let n : j ≡ k = omega arith in
        rw (n, f.1) (says_back base (x % base) q (mod-lt x p))
