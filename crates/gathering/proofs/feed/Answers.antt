-- `gathering::feed` meets its contract. The loop's invariant: what is held is what the bytes so far give.
use Rattle.gathering.specs.Lines.{after}
use Rattle.gathering.proofs.Parted.{took_none, took_next, took_whole, first-most}
use mathlib.Core.Path.{refl, ◌∙◌}
use native.Mathlib.Omega.{arith}
use lib.ListN.{take}
use Rattle.gathering.proofs.feed.Goals as goal

pub loop-b-init : goal.loop-b-init
loop-b-init c = (refl, refl, took_none _ _ _)

pub take_byte-now-requires : goal.take_byte-now-requires
take_byte-now-requires c =
    let held = c.requires.0 in
    let took = c.loop-b.invariant.2 in
    let i = c.loop-b.b-index in
    let piece = c.args.piece.now in (
      record { of = after held.of (take i piece); holds = took.holds held.of held.holds },
      omega (arith, took.lines, first-most i piece, c.requires.1, c.loop-b-test.true),
    )

pub loop-b-preserved : goal.loop-b-preserved
loop-b-preserved c =
    let inv = c.loop-b.invariant in (
      c.take_byte-now.auto.room ∙ inv.0,
      c.take_byte-now.auto.marks ∙ inv.1,
      took_next c.args.piece.now c.loop-b.b-index (omega (arith, c.loop-b-test.true)) inv.2
          c.take_byte-now.ensures,
    )

pub shape_of-room : goal.shape_of-room
shape_of-room c = c.loop-b.invariant.0

pub shape_of-marks : goal.shape_of-marks
shape_of-marks c = c.loop-b.invariant.1

pub returns : goal.returns
returns c = took_whole _ c.loop-b.b-index (omega arith) c.loop-b.invariant.2
