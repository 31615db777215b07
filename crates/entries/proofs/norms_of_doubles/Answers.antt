-- `entries::norms_of_doubles` meets its contract: after each turn each row has the sum over the columns so far, and a turn adds one term to each.
use mathlib.Core.List.{[]}
use mathlib.Core.Path.{◌≡◌, refl, ap, ◌∙◌}
use native.Mathlib.Omega.{arith}
use lib.Ieee.{nan, mul, binary64}
use lib.ListN.{length, get_or, length-append}
use Rattle.std.proofs.Common.{rules}
use Rattle.std.proofs.lemmas.Slice.Zip.{zip_turn, zip_end}
use Rattle.seq.specs.Lists.{tabulate}
use Rattle.seq.specs.Sums.{sum_from, plus_zero, at}
use Rattle.columns.specs.Kernels.{plus_squares}
use Rattle.reading.proofs.Lent.{doubles_are}
use Rattle.chosen.specs.Entries.{entry_of}
use Rattle.entries.proofs.Reading.{one_more}
use Rattle.entries.proofs.norms_of_doubles.Goals as goal

pub loop-j-init : goal.loop-j-init
unfolding sum_from
loop-j-init c = rw c.fill.auto.a c.fill.ensures

pub doubles_of-requires : goal.doubles_of-requires
doubles_of-requires c =
    let a = c.args in
    let l = c.loop-j in
    let here = zip_turn a.cols.now a.scale.now l.yielded c.into_iter-j-iterator.result l.j-iterator c.next.new.self c.next.result
    (search rules) (search rules) l.yielded_by (c.in-Some.j, c.in-Some.s) c.in-Some.is c.next.ensures.steps in
    rw (here.2 0) ((c.requires.inside (length l.yielded) here.0).doubles refl)

pub loop-j-preserved : goal.loop-j-preserved
loop-j-preserved c =
    let a = c.args in
    let l = c.loop-j in
    let k = length l.yielded in
    let here = zip_turn a.cols.now a.scale.now l.yielded c.into_iter-j-iterator.result l.j-iterator c.next.new.self c.next.result
    (search rules) (search rules) l.yielded_by (c.in-Some.j, c.in-Some.s) c.in-Some.is c.next.ensures.steps in
    let inside = (c.requires.inside k here.0).doubles refl in
    let e = entry_of a.matrix.now [] a.n a.cols.now a.scale.now in
    rw (length-append l.yielded _)
    (rw (c.doubles_of.ensures.column, here.2 0, here.3 nan) at c.add_squares.ensures
    ∙ ap (λ col. tabulate (plus_squares col l.acc) (length l.acc))
    (doubles_are a.matrix.now [] a.n (get_or a.cols.now k 0) (at a.scale.now k) refl inside)
    ∙ one_more plus_zero (λ q i. mul binary64 (e q i) (e q i)) l.acc k _ l.invariant)

pub returns : goal.returns
returns c =
    let a = c.args in
    let l = c.loop-j in
    let end = zip_end a.cols.now a.scale.now l.yielded c.into_iter-j-iterator.result l.j-iterator c.next.new.self c.next.result
    (search rules) (search rules) l.yielded_by c.in-None.is c.next.ensures.steps in
    let all : length l.yielded ≡ length a.cols.now = omega (arith, c.requires.paired, end) in
    rw (← all, ← c.fill.auto.a) l.invariant
