-- `advance::turn_downhill` meets its contract: the law `downhill`, at what its calls ensure.
use Rattle.chosen.specs.Entries.{entry_of}
use Rattle.seq.proofs.Parts.{length_part}
use Rattle.advance.proofs.Advancing.{downhill}
use Prim.Native.Nat.{◌+◌, ◌-◌}
use mathlib.Core.Path.{◌≡◌, ◌∙◌}
use native.Mathlib.Omega.{arith}
use lib.ListN.{length, take, drop}
use Rattle.advance.proofs.turn_downhill.Goals as goal

pub times_into-requires : goal.times_into-requires
times_into-requires c =
    let a = c.args in
    let k : length (take (a.rows + a.rows - a.rows) (drop a.rows a.numbers.now)) ≡ a.rows = length_part a.rows
    (a.rows + a.rows - a.rows) a.numbers.now (omega arith) ∙ omega arith in (
      rw k c.requires.0,
      c.requires.1,
    )

pub returns : goal.returns
returns c =
    let a = c.args in
    let p = c.requires in
    let r = a.rows in
    downhill (entry_of a.matrix.now a.bits.now a.n a.cols.now a.scale.now) r (r + r - r) (r - 0) (length a.cols.now)
    a.numbers.now a.g.now c.times_into.new.acc c.turn_if-2.new.v
    c.turn_if.new.v c.dot-uphill.result
    (omega arith) (omega arith) p.2 p.1 c.times_into.ensures c.dot-uphill.ensures
    c.turn_if.ensures c.turn_if-2.ensures
