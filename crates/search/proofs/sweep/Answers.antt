-- `search::sweep` meets its contract: after j turns the columns below j were tried.
use mathlib.Core.Path.{◌≡◌, refl}
use native.Mathlib.Omega.{arith}
use lib.ListN.{length}
use Rattle.chosen.specs.Entries.{entry_of}
use Rattle.flipping.specs.Search.{sweep_to}
use Rattle.flipping.specs.Searching.{unswept}
use Rattle.flipping.proofs.Flips.{sweep_turn}
use Rattle.search.proofs.sweep.Goals as goal

pub loop-j-init : goal.loop-j-init
unfolding sweep_to
loop-j-init c = refl

pub loop-j-preserved : goal.loop-j-preserved
loop-j-preserved c =
    let a = c.args in
    let l = c.loop-j in
    rw c.or-found.ensures
    (sweep_turn (entry_of a.matrix.now a.bits.now a.n a.cols.now a.scale.now) (unswept a.x.now a.ax.now a.best) l.x l.ax
    c.try_flip.new.x c.try_flip.new.ax a.best l.found c.try_flip.result l.j l.invariant
    (rw c.unwrap_or-lowest.ensures at c.try_flip.ensures))

pub returns : goal.returns
returns c =
    let done : c.loop-j.j ≡ length c.args.cols.now = omega arith in
    record { is = rw (← done) c.loop-j.invariant }
