-- `cosine::cos_sums` meets its contract: the square is the definition's, and small enough for the series.
use Prim.Native.Nat.{ℕ, ◌*◌, ◌/◌, ◌^◌}
use mathlib.Core.Path.{ap, ◌∙◌}
use native.Mathlib.Nat.{le_trans, le-add_right, le_of_eq}
use lib.Ieee.{binary64, to_bits}
use Rattle.cosine.specs.Cosine.{square}
use Rattle.terms.proofs.CosTurns.{plus-fits}
use Rattle.cosine.proofs.CosineBound.{square_le}
use Rattle.divisors.proofs.Both.{number}
use Rattle.cosine.proofs.cos_sums.Goals as goal

pub float_to_bits-t : goal.float_to_bits-t
float_to_bits-t c = number c.args.t c.requires.1

pub cos_terms-requires : goal.cos_terms-requires
cos_terms-requires c =
    let b = to_bits binary64 c.args.t in
    let e = c.upper.ensures ∙ ap (λ (x : ℕ). x * x / 2 ^ 64) c.fixed-x.ensures in
    le_trans (le_of_eq e) (le_trans (le-add_right (square b) 3) (square_le b c.requires.1))

pub returns : goal.returns
returns c =
    let b = to_bits binary64 c.args.t in
    let e = c.upper.ensures ∙ ap (λ (x : ℕ). x * x / 2 ^ 64) c.fixed-x.ensures in
    let small = le_trans (le_of_eq e) (le_trans (le-add_right (square b) 3) (square_le b c.requires.1)) in
    (rw e at c.cos_terms.ensures, plus-fits small c.cos_terms.ensures)
