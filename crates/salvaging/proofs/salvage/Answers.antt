-- `salvaging::salvage` meets its contract: the whole text is one piece.
use Rattle.gathering.specs.Lines.{no_lines, after}
use Rattle.gathering.specs.declared.State.{State}
use Rattle.keeping.proofs.Answers.{holding_start, salvage_is}
use mathlib.Core.Path.{ap}
use native.Mathlib.Omega.{arith}
use Rattle.salvaging.proofs.salvage.Goals as goal

pub feed-s-requires : goal.feed-s-requires
feed-s-requires c = (
  record {
    of = no_lines;
    holds = holding_start _ _ _ _ c.start-empty.ensures.0 c.start-empty.ensures.1 (omega arith)
        (omega (arith, c.start-empty.auto.marks));
  },
  omega (arith, ap (λ (x : State). x.lines) c.start-empty.ensures.0, c.well_formed.0.1),
)

pub answer_held-requires : goal.answer_held-requires
answer_held-requires c = (
  record {
    of = after no_lines c.args.text.now;
    holds = c.feed-s.ensures.holds no_lines
        (holding_start _ _ _ _ c.start-empty.ensures.0 c.start-empty.ensures.1 (omega arith) (omega (arith, c.start-empty.auto.marks)));
  },
  omega (arith, c.feed-s.ensures.lines, ap (λ (x : State). x.lines) c.start-empty.ensures.0, c.well_formed.0.1),
)

pub returns : goal.returns
returns c =
    salvage_is (c.feed-s.ensures.holds no_lines
    (holding_start _ _ _ _ c.start-empty.ensures.0 c.start-empty.ensures.1 (omega arith)
    (omega (arith, c.start-empty.auto.marks)))) c.answer_held.ensures
