-- `batch::thin_items` meets its contract: after i items the first i have their answers and their parts of the output, and the scratch is zero.
use Rattle.items.specs.Items.{listed}
use Rattle.items.specs.Lent.{lent_as}
use Rattle.items.proofs.Turns.{Called, Upto}
use Rattle.batch.proofs.thin_items.Given as goal

abbrev pub invariant-loop-i : goal.invariant-loop-i
invariant-loop-i l =
    Called (lent_as l.matrix l.bits l.m l.n) l.m l.n l.items (listed l.weights l.seeds l.editions l.rules l.allowances l.limits) l.initial.output l.initial.numbers l.initial.indices
    × Upto (lent_as l.matrix l.bits l.m l.n) l.m l.n l.items (listed l.weights l.seeds l.editions l.rules l.allowances l.limits) l.initial.output l.initial.numbers l.initial.indices l.i
    l.answers l.output l.numbers l.indices
