-- The words that the calls' clauses speak with, of the crates that have them, passed on to a crate that stands on the calls alone.
pub use Rattle.root.specs.Root.{sqrt_of}
pub use Rattle.draw.specs.SplitMix.{seeded}
pub use Rattle.draw.specs.Gaussian.{ln_of_draw, cos_of_draw}
pub use Rattle.colorfaults.specs.Discrepancy.{DiscrepancyColored}
pub use Rattle.margins.specs.Answers.{change_answer, turned_answer, ChangeGiven, TurnedGiven}
pub use Rattle.rules.specs.declared.Rule.TheVariants.{Target, Within}
pub use Rattle.faults.specs.Faults.{rule_named}
pub use Rattle.answers.specs.Answers.{Thinned}
pub use Rattle.items.specs.Items.{listed}
pub use Rattle.items.specs.All.{ThinnedAll, BitsThinnedAll}
pub use Rattle.bitfaults.specs.Ballots.{BitsThinned}
pub use Rattle.pollfaults.specs.Polls.{BitsColored, bits_change, bits_turned}
pub use Rattle.votefaults.specs.Votes.{VotesThinned}
pub use Rattle.movefaults.specs.Answers.{Listed}
pub use Rattle.writing.specs.Writing.{WroteFor}
pub use Rattle.readback.specs.ReadingBack.{ReadBack}
pub use Rattle.gathering.specs.Lines.{no_lines, after}
pub use Rattle.keeping.specs.Saved.{salvaged, Laid}
pub use Rattle.sheet.specs.Answer.{Answered}
pub use Rattle.words.specs.Words.{moved_answer}
pub use Rattle.interface.specs.Version.{version_number}
pub use Rattle.interface.specs.Caps.{cap_of}
pub use Rattle.interface.specs.Draws.{UniformDrawn, GaussianDrawn}
