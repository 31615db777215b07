-- What is put piece by piece is the first line; and how long the pieces can be.
use Rattle.std.specs.Prelude.{None, Option, Some}
use Prim.Native.Nat.{ℕ, ◌+◌, ◌≤◌}
use mathlib.Core.Path.{◌≡◌}
use mathlib.Core.Bool.{Bool, true, false}
use mathlib.Core.List.{List, [], ◌∷◌, ◌++◌, append_assoc}
use native.Mathlib.Omega.{arith}
use lib.Dec.{eqb}
use lib.ListN.{length, length-append}
use Rattle.seq.specs.Choice.{pick}
use Rattle.fields.specs.Bytes.{tab, newline}
use Rattle.fields.specs.Texts.{bits_text, count_text, tabbed}
use Rattle.fields.specs.Steps.{WroteOn}
use Rattle.fields.proofs.Widths.{length-bits, length-count, width_most}
use Rattle.fields.proofs.Puts.{on_two, length-tabbed}
use Rattle.head.specs.Words.{thin_word, within_word, second_edition}
use Rattle.form.specs.Sheets.{Wish, target, within, cap_text, wish_text, edition_text, first_line}

-- how long a cap, a rule and the end of the first line can be
pub length_cap : (cap : Option ℕ) → length (cap_text cap) ≤ 20
length_cap None = omega arith
length_cap (Some c) = omega (arith, length-count c, width_most c)

pub length_wish : (w : Wish) → length (wish_text w) ≤ 44
length_wish (target t) = omega (arith, length-count t, width_most t)
length_wish (within x cap) =
    omega (arith, length-append (bits_text x) (tab ∷ cap_text cap), length-bits x, length_cap cap)

pub length_edition : (e : ℕ) → length (edition_text e) ≤ 3
length_edition e = go (eqb e 2)
  where
    go : (s : Bool) → length (pick s second_edition (newline ∷ [])) ≤ 3
    go true = omega arith
    go false = omega arith

-- the word of a sheet and its sizes
pub length-sizes : (m n : ℕ) → length (thin_word ++ (tabbed m ++ tabbed n)) ≤ 47
length-sizes m n =
    omega (arith, length-append (tabbed m) (tabbed n), length-tabbed m, length-tabbed n, width_most m, width_most n)

pub sizes_wrote : {out o o' o'' : List ℕ} {a b r : ℕ} (m n : ℕ) → 47 ≤ length out → length o ≡ length out → WroteOn thin_word 0 out a o
    → WroteOn (tabbed m) a o b o' → WroteOn (tabbed n) b o' r o'' → WroteOn (thin_word ++ (tabbed m ++ tabbed n)) 0 out r o''
sizes_wrote m n h g p q s =
    on_two p (on_two q s (omega (arith, p.ends, length-tabbed m, width_most m))) (omega arith)

-- an allowance and a cap
pub within_wrote : {out o o' o'' o''' : List ℕ} {i a b d r : ℕ} (x : ℕ) (cap : Option ℕ) → i + 44 ≤ length out → length o ≡ length out
    → length o' ≡ length out → WroteOn within_word i out a o → WroteOn (bits_text x) a o b o' → WroteOn (tab ∷ []) b o' d o''
    → WroteOn (cap_text cap) d o'' r o''' → WroteOn (wish_text (within x cap)) i out r o'''
within_wrote x cap h g k p q s t =
    let l = length-bits x in
    on_two p (on_two q (on_two s t (omega (arith, p.ends, q.ends))) (omega (arith, p.ends))) (omega arith)

-- the first line
pub head_wrote : {out o o' o'' o''' o'''' : List ℕ} {a b d e r : ℕ} (m n seed : ℕ) (w : Wish) (edition : ℕ) → 111 ≤ length out → length o ≡ length out
    → length o' ≡ length out → length o'' ≡ length out → WroteOn (thin_word ++ (tabbed m ++ tabbed n)) 0 out a o → WroteOn (bits_text seed) a o b o'
    → WroteOn (tab ∷ []) b o' d o'' → WroteOn (wish_text w) d o'' e o''' → WroteOn (edition_text edition) e o''' r o''''
    → WroteOn (first_line m n seed w edition) 0 out r o''''
head_wrote m n seed w edition h g k l p q s t u =
    let x = length-sizes m n in
    let y = length-bits seed in
    let z = length_wish w in
    let all = on_two p
    (on_two q (on_two s (on_two t u (omega (arith, p.ends, q.ends, s.ends))) (omega (arith, p.ends, q.ends))) (omega (arith, p.ends)))
    (omega arith) in
    simp append_assoc at all

pub length-first : (m n seed : ℕ) (w : Wish) (edition : ℕ) → length (first_line m n seed w edition) ≤ 111
length-first m n seed w edition =
    let last : List ℕ = wish_text w ++ edition_text edition in
    omega (
      arith,
      length-append (count_text m) (tab ∷ (count_text n ++ (tab ∷ (bits_text seed ++ (tab ∷ last))))),
      length-append (count_text n) (tab ∷ (bits_text seed ++ (tab ∷ last))),
      length-append (bits_text seed) (tab ∷ last),
      length-append (wish_text w) (edition_text edition),
      length-count m,
      width_most m,
      length-count n,
      width_most n,
      length-bits seed,
      length_wish w,
      length_edition edition,
    )
