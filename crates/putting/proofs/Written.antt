-- What is written at a place: to a part that is lent by its ends, and the digits that fill it.
use Prim.Native.Nat.{ℕ, ◌+◌, ◌≤◌}
use mathlib.Core.Path.{◌≡◌, ap, ◌∙◌}
use mathlib.Core.List.{List}
use lib.ListN.{length}
use Rattle.seq.specs.Lists.{part, placed}
use Rattle.seq.proofs.Parts.{length_part}
use Rattle.fields.specs.Digits.{digits_of}

-- a part that is lent by its ends
pub put-part : (a k m : ℕ) (out ys zs : List ℕ) → m ≡ k → ys ≡ zs → placed a m out ys ≡ placed a k out zs
put-part a k m out ys zs p q = rw (p, q)

-- digits that fill such a part
pub put_digits : (base x a k m : ℕ) (out ys : List ℕ) → a + k ≤ length out → m ≡ k → ys ≡ digits_of base x (length (part a m out))
    → placed a m out ys ≡ placed a k out (digits_of base x k)
put_digits base x a k m out ys h p q =
    put-part a k m out ys (digits_of base x k) p (q ∙ ap (digits_of base x) (ap (λ (n : ℕ). length (part a n out)) p ∙ length_part a k out h))
