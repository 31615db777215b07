-- `root::sqrt` meets its contract: the tests part the positive finite values from the rest, whose roots the definition names.
use native.Mathlib.Omega.{arith}
use mathlib.Core.Path.{◌≡◌, refl, sym, ap, ◌∙◌, subst}
use mathlib.Core.Bool.{true}
use lib.Dec.{T}
use lib.Ieee.{Float, nan, binary64, fits, div, of_bits}
use lib.Ieee.Bits.{of_bits-to_bits}
use Rattle.root.specs.Root.{sqrt_of}
use Rattle.ieee.proofs.Signs.{nought_is}
use Rattle.root.proofs.RootCases.{no_nan, above_of, no_nan_bits, inf_of, zero_root, rest_root}
use Rattle.root.proofs.sqrt.Goals as goal

-- an `f64` that is owned is a value of the format
held : (x : Float) → fits binary64 x ≡ true → T (fits binary64 x)
held x e = subst T (sym e) tt

zero_by_zero : div binary64 (of_bits binary64 0) (of_bits binary64 0) ≡ nan
unfolding div of_bits
zero_by_zero = refl

pub float_to_bits-b : goal.float_to_bits-b
float_to_bits-b c = no_nan _ (rw nought_is at c.if-x.true)

pub pattern-requires : goal.pattern-requires
pattern-requires c = let a = above_of c.args.x (held _ c.well_formed.0.1) (rw nought_is at c.if-x.true) in
    (a.some, omega (arith, a.most, c.if-b-eq9218868437227405312.false))

pub float_from_bits-result : goal.float_from_bits-result
float_from_bits-result c = no_nan_bits _ c.pattern.ensures.0

pub returns-then-b-eq9218868437227405312 : goal.returns-then-b-eq9218868437227405312
returns-then-b-eq9218868437227405312 c = inf_of _ (held _ c.well_formed.0.1) c.if-b-eq9218868437227405312.true

pub returns-else-b-eq9218868437227405312 : goal.returns-else-b-eq9218868437227405312
returns-else-b-eq9218868437227405312 c = c.pattern.ensures.1 ∙ ap sqrt_of (of_bits-to_bits binary64 _ (held _ c.well_formed.0.1))

pub returns-then-x-2 : goal.returns-then-x-2
returns-then-x-2 c = zero_root _ (rw nought_is at c.if-x-2.true)

pub returns-else-x-2 : goal.returns-else-x-2
returns-else-x-2 c = zero_by_zero ∙ rest_root _ (rw nought_is at c.if-x.false) (rw nought_is at c.if-x-2.false)
