-- `write_losses`: some lines at a time, those behind the ones before.
use Rattle.std.proofs.Common.{◌+◌, arith, rules}
use Rattle.std.proofs.KnownBytes.{Appends-nil}
use Rattle.keeping.specs.Saved.{lost_text}
use Rattle.keeping.specs.Steps.{kept_in}
use Rattle.keeping.proofs.Losses.{lost_most}
use Rattle.salvage.proofs.Whole.{losses_on, losses_whole}
use Rattle.salvage.proofs.write_losses.Goals as goal

pub loop-i-init : goal.loop-i-init
unfolding lost_text
loop-i-init g c = (search rules, Appends-nil _)

pub put_losses-long-requires : goal.put_losses-long-requires
put_losses-long-requires g c =
    let some = c.min-some in
    record {
      room = omega (arith, lost_most (kept_in c.args.s c.args.marks.now) (1 + c.loop-i.i) some.result, some.ensures, some.array_long);
      columns = c.requires.0;
      marked = c.requires.1;
      numbered = omega (arith, some.ensures, c.requires.2);
    }

pub loop-i-preserved : goal.loop-i-preserved
loop-i-preserved g c =
    (search rules, losses_on _ _ _ (kept_in c.args.s c.args.marks.now) _ _ _ _ _ c.loop-i.invariant.1 c.put_losses-long.ensures c.in_ok-write_all.ensures.bytes)

pub returns : goal.returns
returns g c = losses_whole _ _ (kept_in c.args.s c.args.marks.now) _ _ c.loop-i.invariant.0 c.loop-i-test.false c.loop-i.invariant.1
