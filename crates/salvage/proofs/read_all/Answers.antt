-- `read_all`: piece after piece, until a read gives nothing.
use Rattle.std.proofs.Common.{arith, rules}
use Rattle.gathering.proofs.Bytewise.{take-most}
use Rattle.salvage.proofs.Reading.{reading_start, reading_more}
use Rattle.salvage.proofs.Whole.{gathered_start, gathered_more, gathered_all, gathered_never}
use Rattle.salvage.proofs.read_all.Goals as goal

pub loop-turn-init : goal.loop-turn-init
loop-turn-init g c =
    let started = c.start-s.ensures in
    let same = c.start-s.auto.marks in (
      reading_start _ _ _ _ _ started.0 started.1 same (search rules) c.requires.0 c.requires.1,
      gathered_start _ _ _ _ _ started.0 started.1 same c.requires.0 c.requires.1,
    )

pub loop-turn-preserved : goal.loop-turn-preserved
loop-turn-preserved g c =
    let before = c.loop-turn.invariant in
    let read = c.in_ok-long.ensures in (
      reading_more _ _ _ _ _ before.0 c.feed-s.ensures (omega (arith, take-most c.in_ok-long.long c.read_full.new.buf, read.bound.0, c.if-long-eq0.array_long))
          c.feed-s.auto.room c.feed-s.auto.marks c.read_full.auto.buf c.loop-turn-test.true,
      gathered_more _ _ _ _ _ before.1 read.bytes c.feed-s.ensures (omega (arith, read.bound.1, c.if-long-eq0.false)),
    )

pub returns-then-long-eq0-clause-all : goal.returns-then-long-eq0-clause-all
returns-then-long-eq0-clause-all g c =
    gathered_all _ _ _ _ _ _ _ c.read_full.new.buf c.loop-turn.invariant.1 c.in_ok-long.ensures.front c.if-long-eq0.true (search rules)

pub returns-clause-all : goal.returns-clause-all
returns-clause-all g c = gathered_never _ _ _ _ _ _ c.loop-turn.invariant.1 (omega arith)
