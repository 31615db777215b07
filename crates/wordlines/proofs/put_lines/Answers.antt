-- `wordlines::put_lines` meets its contract. The loop's invariant: the lines of the words so far are put.
use Rattle.wordlines.proofs.Listing.{lining_start, lining_turn, lining_whole}
use Prim.Native.Nat.{◌+◌}
use mathlib.Core.Path.{◌≡◌, sym}
use mathlib.Core.List.{[], ◌∷◌, ◌++◌}
use native.Mathlib.Omega.{arith}
use lib.ListN.{length, length-append}
use lib.Ieee.{nan}
use Rattle.std.proofs.Common.{rules}
use Rattle.std.proofs.lemmas.Slice.Zip.{zip_turn, zip_end}
use Rattle.wordlines.proofs.put_lines.Goals as goal

pub loop-row-init : goal.loop-row-init
loop-row-init c =
    lining_start c.args.rows.now c.args.changes.now c.args.at c.args.out.now

pub put_line-end-requires : goal.put_line-end-requires
put_line-end-requires c =
    let a = c.args in
    let l = c.loop-row in
    let here = zip_turn a.rows.now a.changes.now l.yielded c.into_iter-row-iterator.result l.row-iterator c.next.new.self c.next.result
    (search rules) (search rules) l.yielded_by (c.in-Some.row, c.in-Some.change) c.in-Some.is c.next.ensures.steps in
    omega (arith, here.0, l.invariant.near, l.invariant.same, c.requires.0)

pub loop-row-preserved : goal.loop-row-preserved
loop-row-preserved c =
    let a = c.args in
    let l = c.loop-row in
    let here = zip_turn a.rows.now a.changes.now l.yielded c.into_iter-row-iterator.result l.row-iterator c.next.new.self c.next.result
    (search rules) (search rules) l.yielded_by (c.in-Some.row, c.in-Some.change) c.in-Some.is c.next.ensures.steps in
    let more : length (l.yielded ++ ((c.in-Some.row, c.in-Some.change) ∷ [])) ≡ length l.yielded + 1 = length-append l.yielded _ in
    rw more
    (lining_turn c.put_line-end.result c.put_line-end.new.out l.invariant here.0 c.requires.0 c.put_line-end.auto.out
    (rw (here.2 0, here.3 nan) at c.put_line-end.ensures))

pub shape_of-out : goal.shape_of-out
shape_of-out c = c.loop-row.invariant.same

pub returns : goal.returns
returns c =
    let a = c.args in
    let l = c.loop-row in
    let all = zip_end a.rows.now a.changes.now l.yielded c.into_iter-row-iterator.result l.row-iterator c.next.new.self c.next.result
    (search rules) (search rules) l.yielded_by c.in-None.is c.next.ensures.steps in
    lining_whole l.invariant (omega arith)
