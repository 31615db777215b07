-- The whole sheet in the caller's buffer.
use borrow.Author.Tests.{ne_eqb, lt-ltb, le-ltb}
use Prim.Native.Nat.{ℕ, ◌≤◌, ◌<◌}
use mathlib.Core.Path.{◌≡◌, refl, ap, ◌∙◌}
use mathlib.Core.List.{List, ◌++◌}
use native.Mathlib.Omega.{arith}
use lib.ListN.{length, take, drop, length-append}
use lib.Seq.{take_at}
use Rattle.seq.proofs.Parts.{length-placed}
use Rattle.fields.specs.Steps.{WroteOn}
use Rattle.form.specs.Sheets.{Sheet, head_text, columns_text, sheet_text}
use Rattle.form.proofs.Rooms.{column_room}
use Rattle.form.proofs.OfForm.{length-columns}
use Rattle.writing.specs.Writing.{WroteSheet}
use Rattle.opening.proofs.Laid.{length-first}

-- a text that was put at the front is read from there, and ends within the buffer
pub front_text_lem : (t out : List ℕ) (r : ℕ) (out' : List ℕ) → WroteOn t 0 out r out' → take r out' ≡ t
front_text_lem t out r out' w = ap (take r) w.puts ∙ take_at t (drop (length t) out) r (omega (arith, w.ends))

pub front_room : (t out : List ℕ) (r : ℕ) (out' : List ℕ) → WroteOn t 0 out r out' → length t ≤ length out → r ≤ length out'
front_room t out r out' w h =
    omega (arith, w.ends, ap length w.puts, length-placed 0 (length t) out t (omega arith) refl)

-- no sheet's text is longer
pub sheet_most : (s : Sheet) → s.m ≤ 32 → s.n ≤ 64 → length (sheet_text s) ≤ 35599
sheet_most s h g =
    let columns : List ℕ = columns_text s.n s.weight s.entry s.m in
    omega (
      arith,
      length-append (head_text s) columns,
      length-first s.m s.n s.seed s.wish s.edition,
      length-columns s.n s.weight s.entry s.m,
      column_room s.m s.n h g,
    )

-- refused before the text is known, or because it is longer than the buffer, and written
module _ (fault : ℕ) (s : Sheet) (text : List ℕ) where
  pub refused : (number : ℕ) → number ≡ fault → (number ≡ 0 → ⊥) → WroteSheet fault s text (record { number = number; length = 0 }) text
  refused number e h =
      let p = ne_eqb number 0 h in
      record { number = rw (← e, p); long = rw p; writes = rw p }

  pub too_long : (out : List ℕ) (r : ℕ) (out' : List ℕ) → 0 ≡ fault → WroteOn (sheet_text s) 0 out r out' → length text < r
      → WroteSheet fault s text (record { number = 16; length = 0 }) text
  too_long out r out' e w l =
      let p = lt-ltb (length text) (length (sheet_text s)) (omega (arith, w.ends)) in
      record { number = rw (← e, p); long = refl; writes = refl }

  pub written : (out : List ℕ) (r : ℕ) (out' ys text' : List ℕ) → 0 ≡ fault → WroteOn (sheet_text s) 0 out r out' → r ≤ length text
      → ys ≡ take r out' → text' ≡ ys ++ drop r text → WroteSheet fault s text (record { number = 0; length = r }) text'
  written out r out' ys text' e w l g k =
      let p = le-ltb (length text) (length (sheet_text s)) (omega (arith, w.ends)) in
      let q : r ≡ length (sheet_text s) = omega (arith, w.ends) in
      record {
        number = rw (← e, p);
        long = q;
        writes = k ∙ ap (λ (x : List ℕ). x ++ drop r text) (g ∙ front_text_lem (sheet_text s) out r out' w)
            ∙ ap (λ (n : ℕ). sheet_text s ++ drop n text) q;
      }
