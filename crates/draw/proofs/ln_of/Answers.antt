-- `draw::ln_of` meets its contract: what the logarithm asks holds at each draw.
use Rattle.std.proofs.Common.{ap, ◌∙◌, arith}
use Rattle.logarithm.specs.Logarithm.{ln_of}
use Rattle.draw.proofs.Values.{draw-bits}
use Rattle.draw.proofs.Uniforms.{output-drawn}
use Rattle.draw.proofs.ln_of.Goals as goal

pub ln-requires : goal.ln-requires
ln-requires c = rw c.uniform_of.ensures (draw-bits (output-drawn c.args.edition c.args.word (omega arith)))

pub returns : goal.returns
returns c = c.ln.ensures ∙ ap ln_of c.uniform_of.ensures
