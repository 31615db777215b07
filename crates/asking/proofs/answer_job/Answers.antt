-- `asking::answer_job` meets its contract: what `thin` leaves, with the sizes and the scratch of a sheet.
use Rattle.asking.proofs.Jobs.{job_wrote}
use Prim.Native.Nat.{◌-◌}
use mathlib.Core.Path.{refl}
use native.Mathlib.Omega.{arith}
use Rattle.asking.proofs.answer_job.Goals as goal

pub put_answer-requires : goal.put_answer-requires
put_answer-requires c =
    omega (arith, c.requires.columns, c.requires.answered, c.requires.room, c.thin-a.auto.output)

pub returns : goal.returns
returns c =
    let lent = c.requires in
    job_wrote _ _ _ lent.known lent.columns lent.rows lent.entries lent.weighed lent.answered refl refl
    c.thin-a.ensures c.put_answer.ensures
