-- `packing::pack` meets its contract: the support and its weights stand at the fronts, and what is behind them is cleared.
use Prim.Native.Nat.{ℕ}
use mathlib.Core.Path.{sym, ap, subst, ◌∙◌}
use mathlib.Core.List.{List}
use native.Mathlib.Omega.{arith}
use lib.Ieee.{nan}
use lib.ListN.{length}
use lib.Seq.{length-take-le}
use Rattle.seq.specs.Indices.{Below}
use Rattle.places.specs.Places.{chosen}
use Rattle.packing.proofs.Packs.{columns_packed, front_support, support-below, weights_packed}
use Rattle.packing.proofs.pack.Goals as goal

pub slice_bounds-choose-end-2 : goal.slice_bounds-choose-end-2
slice_bounds-choose-end-2 c =
    sym (length-take-le _ _ (omega (arith, c.support_into-s.ensures.within, c.support_into-s.auto.buf, c.requires.0, c.requires.1)))

pub slice_bounds-choose-end-4 : goal.slice_bounds-choose-end-4
slice_bounds-choose-end-4 c =
    sym (ap length (front_support c.args.w.now _ _ c.fill.new.a c.support_into-s.ensures
    (c.support_into-s.auto.buf ∙ c.requires.0)) ∙ c.support_into-s.ensures.long)

pub choose-requires : goal.choose-requires
choose-requires c =
    let w = c.args.w.now in
    let p = c.support_into-s.ensures in
    let long = c.support_into-s.auto.buf ∙ c.requires.0 in
    let front = front_support w _ _ c.fill.new.a p long in (
      length-take-le _ _ (omega (arith, p.within, long, c.requires.1)) ∙ sym (ap length front ∙ p.long),
      subst (λ (xs : List ℕ). Below xs (length w)) (sym front) (support-below w),
    )

pub returns : goal.returns
returns c =
    let w = c.args.w.now in
    let p = c.support_into-s.ensures in
    let long = c.support_into-s.auto.buf ∙ c.requires.0 in
    let front = front_support w _ _ c.fill.new.a p long in
    record {
      numbers = columns_packed w _ _ _ p long c.fill.ensures;
      weights = weights_packed w _ c.args.kept.now c.choose.new.to _ p.long (omega (arith, p.within, long)) c.requires.1
          (c.choose.ensures nan ∙ ap (chosen w) front) c.fill-2.ensures;
    }
