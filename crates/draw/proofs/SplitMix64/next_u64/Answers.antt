-- `draw::SplitMix64::next_u64` meets its contract: the wrapping sum is the state's step, and the output is mixed from it.
use Rattle.std.proofs.Common.{ℕ, ap, ◌∙◌}
use Rattle.draw.specs.SplitMix.{advanced, mixed, seeded, output_of, after_of}
use Rattle.draw.proofs.SplitMix64.next_u64.Goals as goal

pub returns : goal.returns
unfolding advanced output_of after_of
returns c =
    let gain = c.wrapping_add_u64-state.ensures.value in
    (c.mix.ensures ∙ ap mixed gain, ap (λ (state : ℕ). seeded state c.args.self.now.edition) gain)
