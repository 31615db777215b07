-- A loop as a definition.
use Rattle.std.specs.Prelude.{ℕ, zero, suc, Bool}
use Rattle.seq.specs.Choice.{pick}

-- Steps until done, at most as many as the fuel says. Where a size falls with each step and is the fuel, more fuel changes nothing.
unfoldable pub run : {S : Type 0} → (S → Bool) → (S → S) → ℕ → S → S
run done next zero s = s
run {S} done next (suc k) s = let r : S = run done next k (next s) in pick (done s) s r
