-- Bits there and back: what is read as bits is how their number is written, and what is written as bits is read.
use Prim.Native.Nat.{ℕ, ◌+◌, ◌^◌, ◌<◌}
use mathlib.Core.Path.{◌≡◌}
use mathlib.Core.Bool.{true, ◌||◌}
use mathlib.Core.List.{List}
use native.Mathlib.Omega.{arith}
use Rattle.seq.specs.Lists.{part}
use Rattle.fields.specs.Bytes.{byte_at}
use Rattle.fields.specs.Digits.{is_digit, is_letter, number_at}
use Rattle.fields.specs.Fields.{is_bits}
use Rattle.fields.specs.Texts.{bits_text}
use Rattle.fields.proofs.Values.{Says, hex_says, says_hex}
use Rattle.seq.proofs.Every.{every_at, every_holds}
use Rattle.fields.proofs.Turns.{number_small}
use Rattle.fields.proofs.Numerals.{digits_of_number, number_of_digits, digits_say}

-- each of the sixteen is a digit of base 16
pub bits_say : (t : List ℕ) (i : ℕ) → is_bits t i ≡ true → (j : ℕ) → j < 16 → Says 16 (byte_at t (i + j))
unfolding is_bits
bits_say t i h j g =
    hex_says (byte_at t (i + j)) (every_at (λ k. is_digit (byte_at t (i + k)) || is_letter (byte_at t (i + k))) 16 j h g)

-- sixteen digits of base 16 say less than 2 ^ 64
pub bits_below : (t : List ℕ) (i : ℕ) → number_at 16 t i 16 < 2 ^ 64
bits_below t i = number_small 16 t i 16 (omega arith)

-- what is read as bits is how their number is written
pub bits_text_lem : (t : List ℕ) (i : ℕ) → is_bits t i ≡ true → part i 16 t ≡ bits_text (number_at 16 t i 16)
bits_text_lem t i h = digits_of_number 16 t i 16 (bits_say t i h)

-- what is written as bits is read
pub text_bits : (x : ℕ) (t : List ℕ) (i : ℕ) → x < 2 ^ 64 → part i 16 t ≡ bits_text x → (is_bits t i ≡ true) × (number_at 16 t i 16 ≡ x)
unfolding is_bits
text_bits x t i h e = (
  every_holds (λ k. is_digit (byte_at t (i + k)) || is_letter (byte_at t (i + k))) 16 (λ j g. says_hex (digits_say 16 x t i 16 (omega arith) (omega arith) e j g)),
  number_of_digits 16 x t i 16 (omega arith) (omega arith) h e,
)
