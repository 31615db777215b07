-- Arrays whose fronts hold the matrix and the weights that were read from a sheet.
use Prim.Native.Nat.{ℕ, ◌*◌, ◌≤◌}
use mathlib.Core.Path.{◌≡◌, sym, ap, ◌∙◌}
use mathlib.Core.List.{List, ◌++◌}
use native.Mathlib.Nat.{mul-le-mul}
use native.Mathlib.Omega.{arith}
use lib.ListN.{length, take, drop, length-append}
use lib.Seq.{length-take-le, take_at}
use lib.Ieee.{Float}
use Rattle.seq.specs.Lists.{tabulate}
use Rattle.seq.proofs.Filling.{length-tab}
use Rattle.head.specs.declared.Head.{Head}
use Rattle.form.specs.Reading.{weights_of, matrix_of}
use Rattle.answering.specs.Steps.{Wrote}

-- so many entries there is room for
pub few : (m n : ℕ) → m ≤ 32 → n ≤ 64 → m * n ≤ 2048
few m n h g = mul-le-mul h g

-- the front of an array is no longer than it is asked to be
pub front_most : (k : ℕ) (xs : List Float) (b : ℕ) → k ≤ length xs → k ≤ b → length (take k xs) ≤ b
front_most k xs b h g = omega (arith, length-take-le k xs h)

-- an array whose front was lent and came back as ys
module _ (k : ℕ) (ys array : List Float) where
  pub front_there : length ys ≡ length (take k array) → k ≤ length array → k ≤ length (ys ++ drop k array)
  front_there e h = omega (arith, length-append ys (drop k array), length-take-le k array h)

  pub front_whole : length ys ≡ length (take k array) → k ≤ length array → k ≡ length (take k (ys ++ drop k array))
  front_whole e h = sym (length-take-le k (ys ++ drop k array) (front_there e h))

  pub front_read : (f : ℕ → Float) → ys ≡ tabulate f (length (take k array)) → k ≤ length array → take k (ys ++ drop k array) ≡ tabulate f k
  front_read f e h =
      let g : ys ≡ tabulate f k = e ∙ ap (tabulate f) (length-take-le k array h) in
      take_at ys (drop k array) k (ap length g ∙ length-tab f k) ∙ g

-- a text that is made of the matrix and the weights that were read is made of those of the sheet
pub job_read : (text : List Float → List Float → List ℕ) (t : List ℕ) (h : Head) {matrix w : List Float} {out : List ℕ} {r : ℕ} {out' : List ℕ}
    → matrix ≡ matrix_of t h → w ≡ weights_of t h → Wrote (text matrix w) out r out' → Wrote (text (matrix_of t h) (weights_of t h)) out r out'
job_read text t h e f g = rw (← e, ← f) g
