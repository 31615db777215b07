-- Which bit patterns are a NaN's: those that are above the infinity's without their sign; each is read as the NaN.
use borrow.Author.Tests.{lt-ltb}
use Prim.Native.Nat.{ℕ, ◌%◌, ◌≤◌, ◌<◌}
use mathlib.Core.Path.{◌≡◌, refl, sym, ◌∙◌}
use mathlib.Core.Bool.{true, not, false≢true}
use lib.Dec.{T}
use lib.Arith.{le→nltb}
use lib.Ieee.{Float, nan, inf, fin, binary64, div, is_nan, of_bits, nan_bits}
use lib.Ieee.Bits.{nan_bits_is, nan_bits_above}

-- a pattern that is no NaN's
pub no_nan_pattern : (b : ℕ) → b % 9223372036854775808 ≤ 9218868437227405312 → T (not (nan_bits binary64 b))
no_nan_pattern b h = rw (nan_bits_above binary64 b) (le→nltb 9218868437227405312 (b % 9223372036854775808) h)

-- there is one NaN
one-nan : (x : Float) → is_nan x ≡ true → x ≡ nan
unfolding is_nan
one-nan nan h = refl
one-nan (inf s) h = absurd (false≢true h)
one-nan (fin s m e) h = absurd (false≢true h)

no_quotient : div binary64 (of_bits binary64 0) (of_bits binary64 0) ≡ nan
unfolding div of_bits
no_quotient = refl

-- any other is read as 0 / 0
pub nan_pattern : (b : ℕ) → 9218868437227405312 < b % 9223372036854775808 → div binary64 (of_bits binary64 0) (of_bits binary64 0) ≡ of_bits binary64 b
nan_pattern b h =
    let t : is_nan (of_bits binary64 b) ≡ true =
    sym (nan_bits_is binary64 b) ∙ nan_bits_above binary64 b ∙ lt-ltb 9218868437227405312 (b % 9223372036854775808) h in
    no_quotient ∙ sym (one-nan (of_bits binary64 b) t)
