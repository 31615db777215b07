-- No second answer fits: what two calls of the colouring from bits with the same arguments may leave is equal, in the answer, the colours and the scratch.
use Prim.Native.Nat.{ℕ}
use mathlib.Core.Path.{◌≡◌, sym, ◌∙◌}
use mathlib.Core.List.{List}
use lib.IntN.{ℤ}
use lib.Ieee.{Float}
use Rattle.colorfaults.specs.declared.Colored.{Colored}
use Rattle.pollfaults.specs.Polls.{BitsColored}

-- the answer, the colours, the numbers and the indices
pub one_answer : {bits : List ℕ} {m n seed : ℕ} {output : List ℤ} {numbers : List Float} {indices : List ℕ} {r s : Colored}
    {a b : List ℤ} {v w : List Float} {i j : List ℕ}
    → BitsColored bits m n seed output numbers indices r a v i → BitsColored bits m n seed output numbers indices s b w j
    → (r ≡ s) × (a ≡ b) × (v ≡ w) × (i ≡ j)
one_answer {r = r} {s = s} p q =
    let e : r.number ≡ s.number = p.number ∙ sym q.number in
    let d : r.directions ≡ s.directions = p.directions ∙ rw e (sym q.directions) in
    let f : r.sweeps ≡ s.sweeps = p.sweeps ∙ rw e (sym q.sweeps) in (
      (λ t. record { number = e t; directions = d t; sweeps = f t }),
      p.colours ∙ rw e (sym q.colours),
      p.floats ∙ rw e (sym q.floats),
      p.words ∙ rw e (sym q.words),
    )
