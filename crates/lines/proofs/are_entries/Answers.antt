-- `lines::are_entries` meets its contract: the chain asks of each place whether an entry stands there.
use borrow.Author.Tests.{tests}
use mathlib.Core.Path.{refl, ◌∙◌}
use Prim.Native.Nat.{◌+◌, ◌*◌}
use native.Mathlib.Omega.{arith}
use Rattle.std.proofs.Common.{rules}
use Rattle.std.proofs.lemmas.Iterator.{YieldsList-from_range}
use Rattle.std.proofs.lemmas.Iterator.Search.{all_from_yields_List}
use Rattle.fields.proofs.Chains.{every_number}
use Rattle.form.specs.Form.{is_entry}
use Rattle.lines.proofs.are_entries.Goals as goal

pub returns : goal.returns
returns c =
    all_from_yields_List (λ k. is_entry c.args.text.now (c.args.at + 17 * k)) _ _ c.all.result c.all.ensures.ran
    (YieldsList-from_range 0 c.args.n c.args.n refl (omega arith)) (λ x b q k. search (rules, tests))
    ∙ every_number (λ k. is_entry c.args.text.now (c.args.at + 17 * k)) c.args.n
