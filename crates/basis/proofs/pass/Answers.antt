-- `basis::pass` meets its contract: after k turns the first k vectors are projected out, and c is what is left along the next.
use Prim.Native.Nat.{ℕ, ◌+◌, ◌*◌, ◌-◌}
use mathlib.Core.Path.{◌≡◌, refl, sym, ap, ◌∙◌}
use native.Mathlib.Nat.{zero-mul, add-sub_cancel_left}
use native.Mathlib.Omega.{arith}
use lib.ListN.{take, drop}
use lib.Seq.{length-take-le}
use Rattle.seq.specs.Lists.{part}
use Rattle.seq.specs.Sums.{plus_zero}
use Rattle.seq.proofs.Filling.{room}
use Rattle.linear.specs.Vectors.{dot_of}
use Rattle.basis.specs.Basis.{pass_to}
use Rattle.basis.proofs.Bases.{pass_turn}
use Rattle.basis.proofs.pass.Goals as goal

pub returns-then-count-eq0 : goal.returns-then-count-eq0
unfolding pass_to
returns-then-count-eq0 c = sym (ap (pass_to plus_zero _ _) c.if-count-eq0.true)

pub slice_bounds-dot-end : goal.slice_bounds-dot-end
slice_bounds-dot-end c = sym (length-take-le _ _ (omega (
  arith,
  room 0 c.args.count c.args.l (omega arith),
)))

pub dot-c-requires : goal.dot-c-requires
dot-c-requires c =
    omega (
      arith,
      length-take-le c.args.l c.args.basis.now
          (omega (arith, room 0 c.args.count c.args.l (omega arith))),
    )

pub loop-k-init : goal.loop-k-init
unfolding pass_to
loop-k-init c =
    let a = c.args in (
      omega arith,
      c.requires.0,
      refl,
      c.dot-c.ensures ∙ ap (λ (x : ℕ). dot_of plus_zero (take a.l (drop x a.basis.now)) a.v.now)
          (sym (zero-mul a.l)),
    )

pub overflow_mul-a : goal.overflow_mul-a
overflow_mul-a c = omega (
  arith,
  room (c.loop-k.k + 1) c.args.count
      c.args.l (omega arith),
)

pub overflow_add-m : goal.overflow_add-m
overflow_add-m c = omega (
  arith,
  room (c.loop-k.k + 1) c.args.count
      c.args.l (omega arith),
)

pub overflow_add-e : goal.overflow_add-e
overflow_add-e c = omega (
  arith,
  room (c.loop-k.k + 1) c.args.count
      c.args.l (omega arith),
)

pub offset_bounds-basis-a : goal.offset_bounds-basis-a
offset_bounds-basis-a c =
    omega (arith, room (c.loop-k.k + 1) c.args.count c.args.l (omega arith))

pub slice_bounds-less_then_dot-end : goal.slice_bounds-less_then_dot-end
slice_bounds-less_then_dot-end c =
    omega (arith, room (c.loop-k.k + 1) c.args.count c.args.l (omega arith))

pub offset_bounds-basis-m : goal.offset_bounds-basis-m
offset_bounds-basis-m c =
    omega (arith, room (c.loop-k.k + 1) c.args.count c.args.l (omega arith))

pub slice_bounds-less_then_dot-end-in-loop-k : goal.slice_bounds-less_then_dot-end-in-loop-k
slice_bounds-less_then_dot-end-in-loop-k c =
    omega (arith, room (c.loop-k.k + 1) c.args.count c.args.l (omega arith))

pub loop-k-preserved : goal.loop-k-preserved
loop-k-preserved c =
    let a = c.args in
    let l = c.loop-k in
    let less = simp add-sub_cancel_left at c.less_then_dot-c.ensures.less in
    let next : l.k * a.l + a.l ≡ (l.k + 1) * a.l = omega arith in (
      (omega arith),
      c.less_then_dot-c.auto.v ∙ l.invariant.1,
      pass_turn a.l a.count l.k a.basis.now a.v.now l.v _ l.c l.invariant.0 l.invariant.2 l.invariant.3 less,
      simp add-sub_cancel_left at c.less_then_dot-c.ensures.along
          ∙ ap (dot_of plus_zero (part (l.k * a.l + a.l) a.l a.basis.now)) (sym less)
          ∙ ap (λ (x : ℕ). dot_of plus_zero (part x a.l a.basis.now) c.less_then_dot-c.new.v) next,
    )

pub overflow_mul-a-2 : goal.overflow_mul-a-2
overflow_mul-a-2 c = omega (
  arith,
  room (c.args.count - 1) c.args.count
      c.args.l (omega arith),
)

pub overflow_add-e-2 : goal.overflow_add-e-2
overflow_add-e-2 c = omega (
  arith,
  room (c.args.count - 1) c.args.count
      c.args.l (omega arith),
)

pub offset_bounds-basis-a-2 : goal.offset_bounds-basis-a-2
offset_bounds-basis-a-2 c =
    omega (arith, room (c.args.count - 1) c.args.count c.args.l (omega arith))

pub slice_bounds-less_scaled-end : goal.slice_bounds-less_scaled-end
slice_bounds-less_scaled-end c =
    omega (arith, room (c.args.count - 1) c.args.count c.args.l (omega arith))

pub returns : goal.returns
returns c =
    let a = c.args in
    let l = c.loop-k in
    let last : a.count - 1 ≡ l.k = omega arith in
    let done : l.k + 1 ≡ a.count = omega arith in
    pass_turn a.l a.count l.k a.basis.now a.v.now l.v _ l.c l.invariant.0 l.invariant.2 l.invariant.3
    (rw last at (simp add-sub_cancel_left at c.less_scaled.ensures)) ∙ ap (pass_to plus_zero _ _) done
