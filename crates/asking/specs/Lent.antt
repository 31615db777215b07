-- Told between functions: what the job of a sheet is answered from, and the room for the answer.
use Rattle.std.specs.Prelude.{ℕ, ◌*◌, ◌≤◌, ◌≡◌, List, length, Float}
use Rattle.faults.specs.Faults.{edition_fault}

-- a job within the sizes of a sheet: its lists are as long as m and n say, its edition is a known one, and `most` bytes or more are there
pub record JobLent (most m n : ℕ) (matrix weights : List Float) (edition : ℕ) (output : List Float) (out : List ℕ) : Type 0 where
  pub columns : m ≤ 32
  pub rows : n ≤ 64
  pub entries : length matrix ≡ m * n
  pub weighed : length weights ≡ m
  pub answered : length output ≡ m
  pub room : most ≤ length out
  pub known : edition_fault edition ≡ 0
