-- What a digit says, and that the digit of a value says that value: by the two ranges, 0 to 9 and A to F.
use borrow.Author.Tests.{leb-true, lt-ltb, le-ltb, le-leb, lt-leb}
use Prim.Native.Nat.{ℕ, ◌+◌, ◌-◌, ◌≤◌, ◌<◌}
use mathlib.Core.Path.{◌≡◌, refl, ap, ◌∙◌}
use mathlib.Core.Bool.{Bool, true, false, ◌||◌, and-false}
use native.Mathlib.Decide.{dec_lt}
use native.Mathlib.Omega.{arith}
use lib.Dec.{leb}
use Rattle.seq.specs.Choice.{pick}
use Rattle.seq.proofs.Choosing.{both}
use Rattle.fields.specs.Digits.{is_digit, is_letter, digit_value, digit_for}

-- a byte in the range of the digits
pub digit_range : (b : ℕ) → is_digit b ≡ true → (48 ≤ b) × (b ≤ 57)
digit_range b h =
    let e = both (leb 48 b) (leb b 57) h in
    (leb-true 48 b e.0, leb-true b 57 e.1)

-- a byte in the range of the letters
pub letter_range : (b : ℕ) → is_letter b ≡ true → (65 ≤ b) × (b ≤ 70)
letter_range b h =
    let e = both (leb 65 b) (leb b 70) h in
    (leb-true 65 b e.0, leb-true b 70 e.1)

-- what a digit says
pub digit_value_lem : (b : ℕ) → is_digit b ≡ true → digit_value b ≡ b - 48
digit_value_lem b h = ap (λ (t : Bool). pick t (b - 48) (pick (is_letter b) (b - 55) 0)) h

-- what a letter says
pub letter_value : (b : ℕ) → is_digit b ≡ false → is_letter b ≡ true → digit_value b ≡ b - 55
letter_value b g h =
    ap (λ (t : Bool). pick t (b - 48) (pick (is_letter b) (b - 55) 0)) g ∙ ap (λ (t : Bool). pick t (b - 55) 0) h

-- any other byte says 0
pub other_value : (b : ℕ) → is_digit b ≡ false → is_letter b ≡ false → digit_value b ≡ 0
other_value b g h =
    ap (λ (t : Bool). pick t (b - 48) (pick (is_letter b) (b - 55) 0)) g ∙ ap (λ (t : Bool). pick t (b - 55) 0) h

-- a byte says at most 15
pub value_most : (b : ℕ) → digit_value b ≤ 15
value_most b = go (is_digit b) (is_letter b) refl refl
  where
    go : (s t : Bool) → is_digit b ≡ s → is_letter b ≡ t → digit_value b ≤ 15
    go true t e h = omega (arith, digit_value_lem b e, (digit_range b e).1)
    go false true e h = omega (arith, letter_value b e h, (letter_range b h).1)
    go false false e h = omega (arith, other_value b e h)

-- a byte that is a digit of the base, and the digit of its own value
pub record Says (base b : ℕ) : Type 0 where
  pub below : digit_value b < base
  pub back : digit_for (digit_value b) ≡ b

-- the digit of a value below ten
pub low_digit : (d : ℕ) → d < 10 → digit_for d ≡ 48 + d
low_digit d h = ap (λ (s : Bool). pick s (48 + d) (55 + d)) (lt-ltb d 10 h)

-- the digit of a value from ten on
pub high_digit : (d : ℕ) → 10 ≤ d → digit_for d ≡ 55 + d
high_digit d h = ap (λ (s : Bool). pick s (48 + d) (55 + d)) (le-ltb d 10 h)

-- a byte in the range is a digit
pub range_digit : (b : ℕ) → 48 ≤ b → b ≤ 57 → is_digit b ≡ true
range_digit b h g = rw (le-leb 48 b h, le-leb b 57 g)

-- a byte in the range is a letter
pub range_letter : (b : ℕ) → 65 ≤ b → b ≤ 70 → is_letter b ≡ true
range_letter b h g = rw (le-leb 65 b h, le-leb b 70 g)

-- a byte past the digits is none
pub past_digit : (b : ℕ) → 57 < b → is_digit b ≡ false
past_digit b h = rw (lt-leb b 57 h) (and-false (leb 48 b))

-- a decimal digit
pub digit_says : (b : ℕ) → is_digit b ≡ true → Says 10 b
digit_says b h =
    let r = digit_range b h in
    let v : digit_value b ≡ b - 48 = digit_value_lem b h in
    let e : digit_for (b - 48) ≡ 48 + (b - 48) = low_digit (b - 48) (omega arith) in
    record { below = omega (arith, v); back = ap digit_for v ∙ omega (arith, e) }

-- a letter, which is no decimal digit
pub letter_says : (b : ℕ) → is_letter b ≡ true → Says 16 b
letter_says b h =
    let r = letter_range b h in
    let v : digit_value b ≡ b - 55 = letter_value b (past_digit b (omega arith)) h in
    let e : digit_for (b - 55) ≡ 55 + (b - 55) = high_digit (b - 55) (omega arith) in
    record { below = omega (arith, v); back = ap digit_for v ∙ omega (arith, e) }

-- a digit of one base is one of each larger base
pub says_more : {m b : ℕ} (n : ℕ) → Says m b → m ≤ n → Says n b
says_more n s h = record { below = omega (arith, s.below); back = s.back }

-- a digit of base 16
pub hex_says : (b : ℕ) → (is_digit b || is_letter b) ≡ true → Says 16 b
hex_says b h = go (is_digit b) refl h
  where
    go : (s : Bool) → is_digit b ≡ s → (s || is_letter b) ≡ true → Says 16 b
    go true e g = says_more 16 (digit_says b e) (omega arith)
    go false e g = letter_says b g

-- the digit of a value is a digit, or a letter, that says the value
pub value_back : (d : ℕ) → d < 16 → digit_value (digit_for d) ≡ d
value_back d h = go (dec_lt d 10)
  where
    go : Dec (d < 10) → digit_value (digit_for d) ≡ d
    go (yes g) =
        let e = low_digit d g in
        rw e (digit_value_lem (48 + d) (range_digit (48 + d) (omega arith) (omega arith)) ∙ omega arith)
    go (no g) =
        let e = high_digit d (omega arith) in
        rw e (letter_value (55 + d) (past_digit (55 + d) (omega arith)) (range_letter (55 + d) (omega arith) (omega arith)) ∙ omega arith)

pub says_back : (base d : ℕ) → base ≤ 16 → d < base → Says base (digit_for d)
says_back base d h g =
    let e : digit_value (digit_for d) ≡ d = value_back d (omega arith) in
    record { below = rw e g; back = ap digit_for e }

pub says_digit : {b : ℕ} → Says 10 b → is_digit b ≡ true
says_digit {b} s =
    let e : digit_for (digit_value b) ≡ 48 + digit_value b = low_digit (digit_value b) s.below in
    range_digit b (omega (arith, s.back, s.below)) (omega (arith, s.back, s.below))

pub says_hex : {b : ℕ} → Says 16 b → (is_digit b || is_letter b) ≡ true
says_hex {b} s = go (dec_lt (digit_value b) 10)
  where
    go : Dec (digit_value b < 10) → (is_digit b || is_letter b) ≡ true
    go (yes g) = rw (says_digit {b = b} (record { below = g; back = s.back }))
    go (no g) =
        let e : digit_for (digit_value b) ≡ 55 + digit_value b = high_digit (digit_value b) (omega arith) in
        rw (past_digit b (omega (arith, s.back)), range_letter b (omega (arith, s.back)) (omega (arith, s.back, s.below)))

-- a byte that says something is not 0, which stands past the end
pub says_positive : {base b : ℕ} → Says base b → 0 < b
says_positive {base} {b} s = go (dec_lt (digit_value b) 10)
  where
    go : Dec (digit_value b < 10) → 0 < b
    go (yes g) = omega (arith, low_digit (digit_value b) g, s.back)
    go (no g) = omega (arith, high_digit (digit_value b) (omega arith), s.back)
