-- `search::local_search` meets its contract: what the remaining sweeps give stays the same from sweep to sweep, until none remains or one flips nothing.
use Prim.Native.Nat.{◌+◌, ◌-◌}
use mathlib.Core.Path.{◌≡◌, refl, ap, sym, ◌∙◌}
use native.Mathlib.Omega.{arith}
use lib.ListN.{length}
use Rattle.chosen.specs.Entries.{entry_of}
use Rattle.flipping.specs.Searching.{searched_in}
use Rattle.flipping.proofs.Flips.{search_begun, search_turn, search_stop, search_over}
use Rattle.search.proofs.local_search.Goals as goal

pub loop-made-init : goal.loop-made-init
loop-made-init c = search_begun _ _ _ _ _ c.max_abs-best.ensures

pub returns-in_default : goal.returns-in_default
returns-in_default c =
    let a = c.args in
    let l = c.loop-made in
    let this : (l.made - 1) + 1 ≡ l.made = omega arith in
    sym
    (l.invariant
    ∙ search_stop (entry_of a.matrix.now a.bits.now a.n a.cols.now a.scale.now) (length a.cols.now) (l.made - 1) l.x l.ax l.best _
    (omega arith) (rw c.in_default.is at c.sweep.ensures) refl
    ∙ ap (searched_in c.sweep.new.x) this)

pub loop-made-preserved : goal.loop-made-preserved
loop-made-preserved c =
    let a = c.args in
    let l = c.loop-made in
    let next : (l.made + 1) - 1 ≡ (l.made - 1) + 1 = omega arith in
    rw next
    (l.invariant
    ∙ search_turn (entry_of a.matrix.now a.bits.now a.n a.cols.now a.scale.now) (length a.cols.now) (l.made - 1) l.x l.ax l.best _
    (omega arith) (rw c.in-Some.is at c.sweep.ensures) refl)

pub returns : goal.returns
returns c =
    let a = c.args in
    let l = c.loop-made in
    let all : l.made - 1 ≡ 100 = omega arith in
    sym (l.invariant ∙ rw all (search_over (entry_of a.matrix.now a.bits.now a.n a.cols.now a.scale.now) (length a.cols.now) 100 l.x l.ax l.best (omega arith)))
