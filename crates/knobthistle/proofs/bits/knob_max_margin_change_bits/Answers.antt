-- `knobthistle::bits::knob_max_margin_change_bits` meets its contract: the two fields of the answer.
use Rattle.margins.specs.declared.Change.{Change}
use mathlib.Core.Path.{ap}
use Rattle.knobthistle.proofs.bits.knob_max_margin_change_bits.Goals as goal

pub returns : goal.returns
returns c = record {
  number = ap (λ (a : Change). a.number) c.max_margin_change_bits-a.ensures;
  change = ap (λ (a : Change). a.change) c.max_margin_change_bits-a.ensures;
}
