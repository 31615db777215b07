-- `words::answer_sheet` meets its contract: the fronts of the arrays hold the matrix and the weights that were read.
use lib.Seq.{length-take-le}
use native.Mathlib.Nat.{mul-le-mul_right}
use Rattle.asking.proofs.Arrays.{few, front_most, front_there, front_whole, front_read, job_read}
use Prim.Native.Nat.{ℕ}
use mathlib.Core.List.{List}
use mathlib.Core.Path.{sym}
use native.Mathlib.Omega.{arith}
use lib.Ieee.{Float}
use Rattle.head.specs.declared.Head.{Head}
use Rattle.asking.specs.Jobs.{source_of}
use Rattle.words.specs.Words.{moved_text}
use Rattle.words.proofs.answer_sheet.Goals as goal

-- the text, of the matrix and the weights that were read
abbrev text_of : Head → List Float → List Float → List ℕ
text_of h matrix w = moved_text h.rule (source_of h) matrix h.m h.n w

pub overflow_mul-size : goal.overflow_mul-size
overflow_mul-size c = omega (arith, few _ _ c.requires.0 c.requires.1)

pub slice_bounds-matrix-end : goal.slice_bounds-matrix-end
slice_bounds-matrix-end c = omega (arith, few _ _ c.requires.0 c.requires.1)

pub slice_bounds-read_matrix-end : goal.slice_bounds-read_matrix-end
slice_bounds-read_matrix-end c = sym (length-take-le _ _ (omega (arith, few _ _ c.requires.0 c.requires.1)))

pub read_matrix-requires : goal.read_matrix-requires
read_matrix-requires c = (
  c.requires.2,
  c.requires.1,
  front_most _ _ _ (omega (arith, few _ _ c.requires.0 c.requires.1))
      (mul-le-mul_right c.args.head.n c.requires.0),
)

pub slice_bounds-weights-end : goal.slice_bounds-weights-end
slice_bounds-weights-end c = omega (arith, c.requires.0)

pub slice_bounds-read_weights-end : goal.slice_bounds-read_weights-end
slice_bounds-read_weights-end c = sym (length-take-le _ _ (omega (arith, c.requires.0)))

pub read_weights-requires : goal.read_weights-requires
read_weights-requires c =
    (c.requires.2, c.requires.1, front_most _ _ _ (omega (arith, c.requires.0)) c.requires.0)

pub slice_bounds-matrix-end-2 : goal.slice_bounds-matrix-end-2
slice_bounds-matrix-end-2 c =
    front_there _ c.read_matrix.new.matrix _ c.read_matrix.auto.matrix (omega (arith, few _ _ c.requires.0 c.requires.1))

pub slice_bounds-answer_job-end : goal.slice_bounds-answer_job-end
slice_bounds-answer_job-end c =
    front_whole _ c.read_matrix.new.matrix _ c.read_matrix.auto.matrix (omega (arith, few _ _ c.requires.0 c.requires.1))

pub slice_bounds-weights-end-2 : goal.slice_bounds-weights-end-2
slice_bounds-weights-end-2 c =
    front_there _ c.read_weights.new.weights _ c.read_weights.auto.weights (omega (arith, c.requires.0))

pub slice_bounds-answer_job-end-2 : goal.slice_bounds-answer_job-end-2
slice_bounds-answer_job-end-2 c =
    front_whole _ c.read_weights.new.weights _ c.read_weights.auto.weights (omega (arith, c.requires.0))

pub slice_bounds-output-end : goal.slice_bounds-output-end
slice_bounds-output-end c = omega (arith, c.requires.0)

pub slice_bounds-answer_job-end-3 : goal.slice_bounds-answer_job-end-3
slice_bounds-answer_job-end-3 c = sym (length-take-le _ _
    (omega (arith, c.requires.0)))

pub answer_job-requires : goal.answer_job-requires
answer_job-requires c =
    record {
      columns = c.requires.0;
      rows = c.requires.1;
      entries = sym (front_whole _ c.read_matrix.new.matrix _ c.read_matrix.auto.matrix
          (omega (arith, few _ _ c.requires.0 c.requires.1)));
      weighed = sym (front_whole _ c.read_weights.new.weights _ c.read_weights.auto.weights
          (omega (arith, c.requires.0)));
      answered = length-take-le _ _ (omega (arith, c.requires.0));
      room = c.requires.3;
      known = c.requires.4;
    }

pub returns : goal.returns
returns c =
    job_read (text_of c.args.head) c.args.text.now c.args.head
    (front_read _ _ _ _ c.read_matrix.ensures (omega (arith, few _ _ c.requires.0 c.requires.1)))
    (front_read _ _ _ _ c.read_weights.ensures (omega (arith, c.requires.0)))
    c.answer_job.ensures
