-- `writing::put_sheet` meets its contract: the first line, and the columns behind it.
use Rattle.fields.proofs.Puts.{on_two}
use Rattle.opening.specs.Wishes.{wish_for}
use Rattle.opening.proofs.Laid.{length-first}
use native.Mathlib.Omega.{arith}
use Rattle.writing.proofs.put_sheet.Goals as goal

pub put_columns-requires : goal.put_columns-requires
put_columns-requires c =
    let first = length-first c.args.m c.args.n c.args.seed
    (wish_for c.args.rule c.args.allowance c.args.limit) c.args.edition in
    let p = c.requires in
    record {
      start = omega (arith, first, c.put_head-start.ensures.ends);
      rows = p.1;
      columns = omega (arith, p.0, p.3);
      entries = rw p.3 p.2;
      room = omega (arith, p.4, c.put_head-start.auto.out);
    }

pub returns : goal.returns
returns c =
    let first = length-first c.args.m c.args.n c.args.seed
    (wish_for c.args.rule c.args.allowance c.args.limit) c.args.edition in
    on_two c.put_head-start.ensures (rw c.requires.3 at c.put_columns.ensures) (omega (arith, first, c.requires.4))
