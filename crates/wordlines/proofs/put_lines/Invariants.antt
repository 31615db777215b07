-- `wordlines::put_lines` meets its contract. The loop's invariant: the lines of the words so far are put.
use Rattle.wordlines.proofs.Listing.{Lining}
use lib.ListN.{length}
use Rattle.wordlines.proofs.put_lines.Given as goal

abbrev pub invariant-loop-row : goal.invariant-loop-row
invariant-loop-row l = Lining l.rows l.changes l.at l.initial.out (length l.yielded) l.end l.out
