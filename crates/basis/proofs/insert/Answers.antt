-- `basis::insert` meets its contract: each way out is one of the laws of Bases.
use native.Mathlib.Nat.{add-sub_cancel_left}
use Rattle.seq.proofs.Filling.{room}
use Rattle.basis.specs.Basis.{unit}
use Rattle.basis.proofs.Bases.{full, dropped_zero, dropped_small, kept}
use native.Mathlib.Omega.{arith}
use Rattle.basis.proofs.insert.Goals as goal

pub returns-then-count-l : goal.returns-then-count-l
returns-then-count-l c = full c.if-count-l.true

pub returns-then-original : goal.returns-then-original
returns-then-original c = dropped_zero (rw (← c.norm-original.ensures) c.if-original.true)

pub project_out-requires : goal.project_out-requires
project_out-requires c =
    (c.requires.0, omega (arith, room c.args.count c.args.l c.args.l c.if-count-l.false))

pub returns-then-remaining-original : goal.returns-then-remaining-original
returns-then-remaining-original c =
    dropped_small
    (rw (← c.norm-original.ensures)
    c.if-original.false)
    (rw (
      ← c.project_out.ensures,
      ← c.norm-remaining.ensures,
      ← c.norm-original.ensures,
    ) c.if-remaining-original.true)

pub overflow_mul-end : goal.overflow_mul-end
overflow_mul-end c =
    omega (arith, room c.args.count c.args.l c.args.l c.if-count-l.false)

pub overflow_add-stop : goal.overflow_add-stop
overflow_add-stop c =
    omega (arith, room c.args.count c.args.l c.args.l c.if-count-l.false)

pub offset_bounds-basis-end : goal.offset_bounds-basis-end
offset_bounds-basis-end c =
    omega (arith, room c.args.count c.args.l c.args.l c.if-count-l.false)

pub slice_bounds-over-end : goal.slice_bounds-over-end
slice_bounds-over-end c =
    omega (arith, room c.args.count c.args.l c.args.l c.if-count-l.false)

pub returns : goal.returns
unfolding unit
returns c =
    kept c.if-count-l.false
    (rw (← c.norm-original.ensures) c.if-original.false)
    (rw (← c.project_out.ensures, ← c.norm-remaining.ensures, ← c.norm-original.ensures) c.if-remaining-original.false)
    c.requires.0
    c.requires.1
    (simp (add-sub_cancel_left, c.over.ensures, c.norm-remaining.ensures, c.project_out.ensures))
