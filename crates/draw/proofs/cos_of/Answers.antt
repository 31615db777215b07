-- `draw::cos_of` meets its contract: what the cosine asks holds at each draw.
use Rattle.std.proofs.Common.{ap, ◌∙◌, arith}
use lib.Ieee.{Float, binary64, mul}
use Rattle.cosine.specs.Cosine.{cos_of, tau}
use Rattle.draw.proofs.Values.{angle_bits}
use Rattle.draw.proofs.Uniforms.{output-drawn}
use Rattle.draw.proofs.cos_of.Goals as goal

pub cos-requires : goal.cos-requires
cos-requires c = rw c.uniform_of.ensures (angle_bits (output-drawn c.args.edition c.args.word (omega arith)))

pub returns : goal.returns
returns c = c.cos.ensures ∙ ap (λ (u : Float). cos_of (mul binary64 tau u)) c.uniform_of.ensures
