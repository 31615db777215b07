-- `basis::less_then_dot` meets its contract: the loop fills v, and the sum is that of the products with what it has filled in.
use mathlib.Core.Path.{◌≡◌, refl, sym, ap, ◌∙◌}
use native.Mathlib.Omega.{arith}
use lib.Ieee.{nan, binary64, mul}
use lib.ListN.{length}
use Rattle.seq.specs.Sums.{sum_from, plus_zero, at}
use Rattle.seq.proofs.Filling.{start, turn, still, whole, get_or-tab}
use Rattle.seq.proofs.Summing.{sum_more, sum_cong}
use Rattle.linear.specs.Vectors.{dot_of}
use Rattle.basis.specs.Basis.{less_at}
use Rattle.basis.proofs.less_then_dot.Goals as goal

pub loop-i-init : goal.loop-i-init
unfolding sum_from
loop-i-init c = (start _ _, refl)

pub loop-i-preserved : goal.loop-i-preserved
loop-i-preserved c =
    let a = c.args in
    let l = c.loop-i in
    let v = l.invariant.0 in (
      turn v (omega arith) (rw (still v (omega arith) nan)),
      rw (
        sum_more binary64 plus_zero (λ j. mul binary64 (at a.r.now j) (less_at a.c a.q.now a.v.now j)) l.i,
        ← l.invariant.1,
        still v (omega arith) nan,
      ),
    )

pub returns : goal.returns
unfolding dot_of
returns c =
    let a = c.args in
    let l = c.loop-i in
    let all : l.i ≡ length a.r.now = omega (arith, c.requires.0, c.requires.1, l.invariant.0.long, l.invariant.0.upto) in
    record {
      less = whole l.invariant.0 (omega arith);
      along = l.invariant.1 ∙ rw all (sum_cong binary64 plus_zero _ _ (length a.r.now)
          (λ j h. ap (mul binary64 (at a.r.now j))
          (sym (get_or-tab (less_at a.c a.q.now a.v.now) (length a.v.now) j nan (omega arith)))));
    }
