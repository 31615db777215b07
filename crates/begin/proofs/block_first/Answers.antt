-- `begin::block_first` meets its contract: after k turns the first k rows are blocked.
use Rattle.blocking.proofs.Scratch.{rest_room}
use Rattle.blocking.proofs.Freezing.{chosen_own}
use Rattle.chosen.specs.Entries.{entry_of}
use Rattle.begin.proofs.Starting.{blocking-start, blocking-turn, blocking_end}
use mathlib.Core.Path.{refl, ◌∙◌}
use native.Mathlib.Omega.{arith}
use lib.ListN.{length}
use Rattle.begin.proofs.block_first.Goals as goal

pub loop-row-init : goal.loop-row-init
loop-row-init c =
    let a = c.args in
    blocking-start _ _ a.first.now a.numbers.now _ a.v.now a.blocked.now refl
    c.requires.chosen.3

pub overflow_cast-i : goal.overflow_cast-i
overflow_cast-i c = omega (
  arith,
  c.requires.by_index c.loop-row.row-index
      c.loop-row-test.true,
)

pub offset_bounds-blocked-i : goal.offset_bounds-blocked-i
offset_bounds-blocked-i c = omega (
  arith,
  c.requires.by_index c.loop-row.row-index
      c.loop-row-test.true,
)

pub bounds-blocked-i : goal.bounds-blocked-i
bounds-blocked-i c = omega (
  arith,
  c.requires.by_index c.loop-row.row-index
      c.loop-row-test.true,
  c.loop-row.invariant.long,
)

pub block_row-count-requires : goal.block_row-count-requires
block_row-count-requires c =
    let a = c.args in
    let p = c.requires.chosen in
    let s = c.loop-row in
    (chosen_own p.0, s.invariant.vs ∙ p.1, rest_room _ _ s.numbers (omega (arith, s.invariant.nums)), s.invariant.most)

pub loop-row-preserved : goal.loop-row-preserved
loop-row-preserved c =
    let a = c.args in
    let s = c.loop-row in
    blocking-turn (entry_of a.matrix.now a.bits.now a.n a.cols.now a.scale.now) (length a.cols.now) a.first.now
    a.numbers.now (length a.blocked.now) a.v.now s.numbers s.blocked s.v s.count s.row-index s.invariant
    c.block_row-count.result c.block_row-count.new.basis c.block_row-count.new.v
    c.loop-row-test.true (omega arith) c.block_row-count.auto.basis
    c.block_row-count.auto.v c.block_row-count.ensures

pub returns : goal.returns
returns c =
    let a = c.args in
    let s = c.loop-row in
    blocking_end (entry_of a.matrix.now a.bits.now a.n a.cols.now a.scale.now) (length a.cols.now) a.first.now a.numbers.now
    (length a.blocked.now) a.v.now s.numbers s.blocked s.v s.count s.row-index s.invariant c.loop-row-test.false
