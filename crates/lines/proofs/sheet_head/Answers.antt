-- `lines::sheet_head` meets its contract: a good first line bounds the sizes, so that no sum wraps, and each way out is one of the four answers.
use Rattle.seq.proofs.Choosing.{ways}
use Rattle.head.specs.FirstLine.{has_head, head_of}
use Rattle.form.proofs.Verdicts.{sized, first_wrong, column_wrong, none_wrong, end_wrong}
use mathlib.Core.Path.{refl, sym}
use native.Mathlib.Omega.{arith}
use Rattle.lines.proofs.sheet_head.Goals as goal

pub returns-in_default : goal.returns-in_default
returns-in_default c =
    let t = c.args.text.now in
    (ways (has_head t) (λ e. absurd (c.in_default.ensures e)) (first_wrong t (head_of t) refl), omega arith)

pub columns_from-good-requires : goal.columns_from-good-requires
columns_from-good-requires c = omega (arith, sized _ _ c.in-Some.ensures.1 c.in-Some.ensures.0)

pub overflow_add-result : goal.overflow_add-result
overflow_add-result c = omega (arith, sized _ _ c.in-Some.ensures.1 c.in-Some.ensures.0)

pub returns-then-good-head : goal.returns-then-good-head
returns-then-good-head c =
    (column_wrong _ _ _ c.in-Some.ensures.1 c.in-Some.ensures.0 c.columns_from-good.ensures (omega arith), omega arith)

pub overflow_mul-head : goal.overflow_mul-head
overflow_mul-head c = omega (arith, sized _ _ c.in-Some.ensures.1 c.in-Some.ensures.0)

pub overflow_add-head : goal.overflow_add-head
overflow_add-head c = omega (arith, sized _ _ c.in-Some.ensures.1 c.in-Some.ensures.0)

pub overflow_mul-head-2 : goal.overflow_mul-head-2
overflow_mul-head-2 c = omega (arith, sized _ _ c.in-Some.ensures.1 c.in-Some.ensures.0)

pub overflow_add-head-2 : goal.overflow_add-head-2
overflow_add-head-2 c = omega (arith, sized _ _ c.in-Some.ensures.1 c.in-Some.ensures.0)

pub overflow_add-result-then-text-head : goal.overflow_add-result-then-text-head
overflow_add-result-then-text-head c = omega (arith, sized _ _ c.in-Some.ensures.1 c.in-Some.ensures.0)

pub returns-then-text-head : goal.returns-then-text-head
returns-then-text-head c =
    (end_wrong _ _ _ c.in-Some.ensures.1 c.in-Some.ensures.0 c.columns_from-good.ensures (omega arith) (λ p. omega arith), omega arith)

pub returns : goal.returns
returns c =
    (c.in-Some.ensures.1, sym (none_wrong _ _ _ c.in-Some.ensures.1 c.in-Some.ensures.0 c.columns_from-good.ensures (omega arith) (omega arith)))
