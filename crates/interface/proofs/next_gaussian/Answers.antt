-- `interface::next_gaussian` meets its contract: the draw of a generator that starts at the state.
use Rattle.draw.specs.Gaussian.{gaussian_of, after_gaussian}
use Rattle.draw.specs.declared.SplitMix64.{SplitMix64}
use mathlib.Core.Path.{ap, ◌∙◌}
use Rattle.interface.proofs.next_gaussian.Goals as goal

pub returns : goal.returns
returns c =
    let started = c.new-rng.ensures in
    record {
      value = c.gaussian-d.ensures.0 ∙ ap gaussian_of started;
      moved = ap (λ (rng : SplitMix64). rng.state) (c.gaussian-d.ensures.1 ∙ ap after_gaussian started);
    }
