-- No second answer fits what the reader as bits promises.
use Prim.Native.Nat.{ℕ, ◌*◌}
use mathlib.Core.Path.{◌≡◌, sym, ap, ◌∙◌}
use mathlib.Core.List.{List, ◌++◌}
use lib.Dec.{eqb}
use lib.ListN.{drop}
use Rattle.seq.specs.Choice.{pick}
use Rattle.head.specs.FirstLine.{head_of}
use Rattle.form.specs.Reading.{weight_bits, matrix_bits}
use Rattle.readback.specs.ReadingBack.{first_of, ReadBack}

pub sole_read : {text matrix weights first : List ℕ} {r q : ℕ} {m m' w w' f f' : List ℕ} → ReadBack text matrix weights first r m w f
    → ReadBack text matrix weights first q m' w' f' → (r ≡ q) × (m ≡ m') × (w ≡ w') × (f ≡ f')
sole_read {text} {matrix} {weights} {first} {r} {q} a b =
    let h = head_of text in
    let n : r ≡ q = a.number ∙ sym b.number in (
      n,
      a.matrices ∙ ap (λ (x : ℕ). pick (eqb x 0) (matrix_bits text h ++ drop (h.m * h.n) matrix) matrix) n ∙ sym b.matrices,
      a.weighed ∙ ap (λ (x : ℕ). pick (eqb x 0) (weight_bits text h ++ drop h.m weights) weights) n ∙ sym b.weighed,
      a.firsts ∙ ap (λ (x : ℕ). pick (eqb x 0) (first_of h ++ drop 7 first) first) n ∙ sym b.firsts,
    )
