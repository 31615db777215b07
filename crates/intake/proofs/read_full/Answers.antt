-- `read_full`: each piece is put behind those before it.
use Rattle.std.proofs.Common.{rules}
use Rattle.std.proofs.KnownBytes.{Consumes-nil}
use Rattle.intake.proofs.Filled.{filled_on, filled_last, front_at_end, front_when_full}
use Rattle.intake.proofs.read_full.Goals as goal

pub loop-done-init : goal.loop-done-init
loop-done-init g c = (search rules, search rules, Consumes-nil _)

pub returns-then-n-eq0-clause-bytes : goal.returns-then-n-eq0-clause-bytes
returns-then-n-eq0-clause-bytes g c =
    let before = c.loop-done.invariant in
    let read = c.in_ok-n.ensures in
    filled_last _ _ _ c.loop-done.done c.in_ok-n.n c.loop-done.buf c.read.new.buf before.1 read.bound.0 c.if-n-eq0.true before.2 read.bytes.0

pub returns-then-n-eq0-clause-front : goal.returns-then-n-eq0-clause-front
returns-then-n-eq0-clause-front g c =
    let before = c.loop-done.invariant in
    let read = c.in_ok-n.ensures in
    front_at_end _ _ _ _
    (filled_last _ _ _ c.loop-done.done c.in_ok-n.n c.loop-done.buf c.read.new.buf before.1 read.bound.0 c.if-n-eq0.true before.2 read.bytes.0)
    (read.bytes.1 c.if-n-eq0.true (search rules))

pub loop-done-preserved : goal.loop-done-preserved
loop-done-preserved g c =
    let before = c.loop-done.invariant in
    let read = c.in_ok-n.ensures in
    (search rules, search rules, filled_on _ _ _ c.loop-done.done c.in_ok-n.n c.loop-done.buf c.read.new.buf before.1 read.bound.0 before.2 read.bytes.0)

pub returns-clause-front : goal.returns-clause-front
returns-clause-front g c =
    let filled = c.loop-done.invariant in
    front_when_full _ _ _ _ filled.2 c.loop-done-test.false
