-- `logarithm::ln` meets its contract: the depth is the definition's, never below zero, and small enough to be a double.
use Prim.Native.Nat.{ℕ, ◌-◌, ◌*◌, ◌/◌, ◌^◌}
use mathlib.Core.Path.{◌≡◌, refl, sym, ap, ◌∙◌}
use mathlib.Core.Bool.{false}
use native.Mathlib.Nat.{le_trans}
use native.Mathlib.Omega.{arith}
use borrow.Author.Tests.{eq-eqb, ne_eqb}
use lib.Dec.{lit≤, le→leb}
use lib.IntN.{pos}
use lib.Bits.{bit_and, and_mask, mask_lt}
use lib.Ieee.{fin, binary64, to_bits, of_bits, in_float, neg, div, of_int}
use Rattle.logarithm.specs.Logarithm.{ratio, odd_sum, low, places, third, depth, logarithm_of}
use Rattle.logarithm.proofs.Logs.{never_below, ratio-third}
use Rattle.divisors.proofs.Both.{number}
use Rattle.logarithm.proofs.ln.Goals as goal

two_47 : of_bits binary64 4818851601286430720 ≡ fin false 1 (pos 47)
unfolding of_bits
two_47 = refl

quotient : (b q : ℕ) → q ≡ ratio (bit_and b (2 ^ 52 - 1)) → q ≡ ratio (low b)
quotient b q e = e ∙ ap ratio (and_mask b 52)

summed : (b q s : ℕ) → q ≡ ratio (bit_and b (2 ^ 52 - 1)) → s ≡ odd_sum q 21 → s ≡ odd_sum (ratio (low b)) 21
summed b q s e f = f ∙ ap (λ (q : ℕ). odd_sum q 21) (quotient b q e)

deep : (b q s : ℕ) → q ≡ ratio (bit_and b (2 ^ 52 - 1)) → s ≡ odd_sum q 21 → (places b * third - s) / 2 ^ 11 ≡ depth b
unfolding depth
deep b q s e f = ap (λ (x : ℕ). (places b * third - x) / 2 ^ 11) (summed b q s e f)

at_zero : (b : ℕ) → depth b ≡ 0 → of_bits binary64 0 ≡ logarithm_of b
unfolding logarithm_of of_bits
at_zero b h = rw (eq-eqb (depth b) 0 h)

at_more : (b : ℕ) → (depth b ≡ 0 → ⊥) → neg (div binary64 (of_int binary64 (pos (depth b))) (fin false 1 (pos 47))) ≡ logarithm_of b
unfolding logarithm_of
at_more b h = rw (ne_eqb (depth b) 0 h)

pub float_to_bits-b : goal.float_to_bits-b
float_to_bits-b c = number c.args.u (le_trans c.requires.1 (lit≤ tt))

pub ratio_of-requires : goal.ratio_of-requires
ratio_of-requires c = omega (arith, mask_lt (to_bits binary64 c.args.u) 52)

pub odd_sum-requires : goal.odd_sum-requires
odd_sum-requires c =
    let b = to_bits binary64 c.args.u in
    omega (arith, quotient b _ c.ratio_of.ensures, ratio-third b c.requires.1)

pub overflow_sub-depth : goal.overflow_sub-depth
overflow_sub-depth c =
    let b = to_bits binary64 c.args.u in
    rw (summed b _ _ c.ratio_of.ensures c.odd_sum.ensures) (never_below b c.requires.1)

pub int_to_float-result : goal.int_to_float-result
unfolding in_float
int_to_float-result c = le→leb _ (2 ^ 53) (omega arith)

pub returns-then-depth-eq0 : goal.returns-then-depth-eq0
returns-then-depth-eq0 c =
    let b = to_bits binary64 c.args.u in
    at_zero b (sym (deep b _ _ c.ratio_of.ensures c.odd_sum.ensures) ∙ c.if-depth-eq0.true)

pub returns-else-depth-eq0 : goal.returns-else-depth-eq0
returns-else-depth-eq0 c =
    let b = to_bits binary64 c.args.u in
    let e = deep b _ _ c.ratio_of.ensures c.odd_sum.ensures in
    rw (two_47, e) (at_more b (λ (h : depth b ≡ 0). c.if-depth-eq0.false (e ∙ h)))
