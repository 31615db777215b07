-- `trial::ends_there` meets its contract: the cap is asked only where the change is above.
use Rattle.trial.proofs.ends_there.Goals as goal

pub returns-then-above : goal.returns-then-above
returns-then-above c = rw (c.if-above.true, ← c.count_nonzeros.ensures) c.meets_cap.ensures

pub returns-else-above : goal.returns-else-above
returns-else-above c = rw c.if-above.false
