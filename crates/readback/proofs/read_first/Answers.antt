-- `readback::read_first` meets its contract: seven numbers, each in its place.
use Rattle.readback.proofs.Whole.{seven}
use native.Mathlib.Omega.{arith}
use lib.ListN.{length-set}
use Rattle.readback.proofs.read_first.Goals as goal

pub bounds-first-1 : goal.bounds-first-1
bounds-first-1 c = simp length-set (omega arith)

pub bounds-first-2 : goal.bounds-first-2
bounds-first-2 c = simp length-set (omega arith)

pub bounds-first-3 : goal.bounds-first-3
bounds-first-3 c = simp length-set (omega arith)

pub bounds-first-5 : goal.bounds-first-5
bounds-first-5 c = simp length-set (omega arith)

pub bounds-first-4 : goal.bounds-first-4
bounds-first-4 c = simp length-set (omega arith)

pub bounds-first-6 : goal.bounds-first-6
bounds-first-6 c = simp length-set (omega arith)

pub shape_of-first : goal.shape_of-first
shape_of-first c = simp length-set

pub returns : goal.returns
returns c =
    rw (c.limit_of.ensures, c.rule_number.ensures)
    (seven c.args.first.now c.args.head.m c.args.head.n c.args.head.seed
    c.args.head.edition _ c.args.head.allowance _ c.requires)
