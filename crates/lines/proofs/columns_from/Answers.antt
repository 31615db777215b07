-- `lines::columns_from` meets its contract: after j turns j columns are passed, and what stands from there is what is left to count.
use Rattle.form.proofs.Rooms.{column_room}
use Rattle.form.proofs.Columns.{passed_start, passed-turn, passed-left, passed-whole}
use mathlib.Core.Path.{◌≡◌, sym, ◌∙◌}
use native.Mathlib.Omega.{arith}
use Rattle.lines.proofs.columns_from.Goals as goal

pub loop-j-init : goal.loop-j-init
loop-j-init c = passed_start _ _ _ _

pub overflow_mul-j : goal.overflow_mul-j
overflow_mul-j c = omega (arith, column_room c.loop-j.j c.args.n (omega arith) (omega arith))

pub overflow_add-at : goal.overflow_add-at
overflow_add-at c = omega (arith, column_room c.loop-j.j c.args.n (omega arith) (omega arith))

pub is_column-requires : goal.is_column-requires
is_column-requires c = omega (arith, column_room c.loop-j.j c.args.n (omega arith) (omega arith))

pub loop-j-preserved : goal.loop-j-preserved
loop-j-preserved c = passed-turn c.loop-j.invariant (omega arith) (sym c.is_column.ensures ∙ c.if-not-is_column.false)

pub returns-then-not-is_column : goal.returns-then-not-is_column
returns-then-not-is_column c = passed-left c.loop-j.invariant (omega arith) (sym c.is_column.ensures ∙ c.if-not-is_column.true)

pub returns : goal.returns
returns c =
    let e : c.loop-j.j ≡ c.args.m = omega arith in
    sym e ∙ passed-whole c.loop-j.invariant (omega arith)
