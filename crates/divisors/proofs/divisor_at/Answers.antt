-- `divisors::divisor_at` meets its contract: the rule of the whole table, at k.
use borrow.Author.Rules.{rules}
use Rattle.divisors.proofs.Divisors.{table_rule}
use Rattle.divisors.proofs.divisor_at.Goals as goal

pub returns : goal.returns
returns c = table_rule c.args.k (search rules)
