-- `words::answer_job` meets its contract: the answer that `thin` leaves, and behind it the words of an accepted job.
use Rattle.words.proofs.Whole.{answer_ends, job_refused, job_accepted}
use Prim.Native.Nat.{◌-◌}
use mathlib.Core.Path.{refl}
use native.Mathlib.Omega.{arith}
use Rattle.words.proofs.answer_job.Reads as reads
use Rattle.words.proofs.answer_job.Lts as lts
use Rattle.answering.proofs.put_answer.Reads as put-answer-reads
use Rattle.sparsification.proofs.thin.Reads as thin_reads
use Rattle.listing.proofs.put_moves.Reads as put-moves-reads
use Rattle.words.proofs.answer_job.Goals as goal

pub returns-then-a-ne0 : goal.returns-then-a-ne0
returns-then-a-ne0 c =
    let lent = c.requires in
    job_refused lent.known lent.columns lent.rows lent.entries lent.weighed lent.answered refl refl
    c.thin-a.ensures c.if-a-ne0.true c.put_answer-end.ensures

pub put_moves-requires : goal.put_moves-requires
put_moves-requires c =
    let lent = c.requires in
    let ends = answer_ends c.thin-a.result c.thin-a.new.output c.put_answer-end.ensures
    (omega (arith, c.thin-a.auto.output, lent.answered, lent.columns)) in
    (lent.columns, lent.rows, lent.weighed, omega (arith, ends, lent.room, c.put_answer-end.auto.out))

pub returns : goal.returns
returns c =
    let lent = c.requires in
    job_accepted lent.known lent.columns lent.rows lent.entries lent.weighed lent.answered refl refl
    c.thin-a.ensures c.if-a-ne0.false lent.room
    (omega (arith, c.thin-a.auto.output, lent.answered, lent.columns))
    c.put_answer-end.ensures c.put_moves.ensures
