-- `knobthistle::bits::knob_turned_words_bits` meets its contract: the two fields of the answer.
use Rattle.margins.specs.declared.Turned.{Turned}
use mathlib.Core.Path.{ap}
use Rattle.knobthistle.proofs.bits.knob_turned_words_bits.Goals as goal

pub returns : goal.returns
returns c = record {
  number = ap (λ (a : Turned). a.number) c.turned_words_bits-a.ensures;
  count = ap (λ (a : Turned). a.count) c.turned_words_bits-a.ensures;
}
