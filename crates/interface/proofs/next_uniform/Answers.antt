-- `interface::next_uniform` meets its contract: the draw of a generator that starts at the state.
use Rattle.draw.specs.SplitMix.{after_of}
use Rattle.draw.specs.Uniform.{uniform_in}
use Rattle.draw.specs.declared.SplitMix64.{SplitMix64}
use mathlib.Core.Path.{ap, ◌∙◌}
use Rattle.interface.proofs.next_uniform.Goals as goal

pub returns : goal.returns
returns c =
    let started = c.new-rng.ensures in
    record {
      value = c.uniform-u.ensures.0 ∙ ap uniform_in started;
      moved = ap (λ (rng : SplitMix64). rng.state) (c.uniform-u.ensures.1 ∙ ap after_of started);
    }
