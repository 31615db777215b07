-- `knobthistle::knob_turned_words` meets its contract: the two fields of the answer.
use Rattle.margins.specs.declared.Turned.{Turned}
use mathlib.Core.Path.{ap}
use Rattle.knobthistle.proofs.knob_turned_words.Goals as goal

pub returns : goal.returns
returns c = record {
  number = ap (λ (a : Turned). a.number) c.turned_words-a.ensures;
  count = ap (λ (a : Turned). a.count) c.turned_words-a.ensures;
}
