-- `draw::SplitMix64::gaussian` meets its contract: both uniforms are what the transform asks, and are drawn in the definition's order.
use Rattle.std.proofs.Common.{ap, ◌∙◌}
use Rattle.draw.specs.SplitMix.{after_of}
use Rattle.draw.specs.Uniform.{uniform_in}
use Rattle.draw.specs.Gaussian.{gaussian_of, after_gaussian}
use Rattle.draw.proofs.Uniforms.{generator_drawn}
use Rattle.draw.proofs.SplitMix64.gaussian.Goals as goal

pub box_muller-requires : goal.box_muller-requires
box_muller-requires c =
    let second = c.uniform-u2.ensures.0 ∙ ap uniform_in c.uniform-u1.ensures.1 in
    (rw c.uniform-u1.ensures.0 (generator_drawn _), rw second (generator_drawn _))

pub returns : goal.returns
unfolding gaussian_of after_gaussian
returns c =
    let second = c.uniform-u2.ensures.0 ∙ ap uniform_in c.uniform-u1.ensures.1 in
    (rw (c.box_muller.ensures, c.uniform-u1.ensures.0, second), c.uniform-u2.ensures.1 ∙ ap after_of c.uniform-u1.ensures.1)
