-- No second answer fits what the writer promises.
use Prim.Native.Nat.{ℕ}
use mathlib.Core.Path.{◌≡◌, sym, ap, ◌∙◌}
use mathlib.Core.List.{List, ◌++◌}
use lib.Dec.{eqb}
use lib.ListN.{length, drop}
use Rattle.seq.specs.Choice.{pick}
use Rattle.form.specs.Sheets.{Sheet, sheet_text}
use Rattle.writing.specs.Writing.{WroteSheet}
use Rattle.writing.specs.declared.Written.{Written}

same_written : (a b c d : ℕ) → a ≡ c → b ≡ d → ◌≡◌ {A = Written} (record { number = a; length = b }) (record { number = c; length = d })
same_written a b c d p q = rw (p, q)

pub sole_written : {fault : ℕ} {s : Sheet} {text : List ℕ} {r q : Written} {one two : List ℕ} → WroteSheet fault s text r one
    → WroteSheet fault s text q two → (r ≡ q) × (one ≡ two)
sole_written {fault} {s} {text} {r} {q} {one} {two} a b =
    let n : r.number ≡ q.number = a.number ∙ sym b.number in
    let l : r.length ≡ q.length = a.long ∙ ap (λ (x : ℕ). pick (eqb x 0) (length (sheet_text s)) 0) n ∙ sym b.long in (
      same_written r.number r.length q.number q.length n l,
      a.writes ∙ ap (λ (x : ℕ). pick (eqb x 0) (sheet_text s ++ drop (length (sheet_text s)) text) text) n ∙ sym b.writes,
    )
