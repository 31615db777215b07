-- `putting::write_digits` meets its contract: the last digits stand from k on, and those of the rest go before them.
use Rattle.fields.proofs.Turns.{Writing}
use Rattle.putting.proofs.write_digits.Given as goal

abbrev pub invariant-loop-k : goal.invariant-loop-k
invariant-loop-k l = Writing l.base l.x l.initial.a l.rest l.k l.a
