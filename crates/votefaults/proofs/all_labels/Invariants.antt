-- `votefaults::all_labels` meets its contract: after i turns it says whether the first i labels pass.
use mathlib.Core.Path.{◌≡◌}
use lib.IntN.{pos}
use lib.ListN.{get_or}
use Rattle.seq.specs.Keep.{all_to}
use Rattle.votefaults.specs.Votes.{is_label}
use Rattle.votefaults.proofs.all_labels.Given as goal

abbrev pub invariant-loop-y : goal.invariant-loop-y
invariant-loop-y l = l.ok ≡ all_to (λ i. is_label (get_or l.labels i (pos 0))) l.y-index
