-- `fields::spells` meets its contract: the chain asks of each byte of the word whether it stands at its place.
use borrow.Author.Tests.{tests}
use lib.Dec.{eqb}
use mathlib.Core.Path.{◌∙◌}
use Prim.Native.Nat.{ℕ, ◌+◌}
use Rattle.std.proofs.Common.{rules}
use Rattle.std.proofs.lemmas.Iterator.{YieldsList-from_slice}
use Rattle.std.proofs.lemmas.Iterator.Consumers.{YieldsList-from_enumerate}
use Rattle.std.proofs.lemmas.Iterator.Search.{all_from_yields_List}
use Rattle.fields.specs.Bytes.{byte_at, spelled}
use Rattle.fields.proofs.Chains.{every_place}
use Rattle.fields.proofs.spells.Goals as goal

pub returns : goal.returns
unfolding spelled
returns c =
    all_from_yields_List (λ (p : ℕ × ℕ). eqb (byte_at c.args.text.now (c.args.at + p.0)) p.1)
    _ _ c.all.result c.all.ensures.ran (YieldsList-from_enumerate (YieldsList-from_slice c.args.word.now cc) (cc)) (λ x b q k. search (rules, tests))
    ∙ every_place (λ (k b : ℕ). eqb (byte_at c.args.text.now (c.args.at + k)) b) c.args.word.now
