-- How long each line of an answer is, and that it is put in the buffer piece by piece as the definitions say.
use borrow.Author.Tests.{eq-eqb, ne_eqb}
use Prim.Native.Nat.{ℕ, zero, suc, ◌+◌, ◌*◌, ◌≤◌, ◌<◌}
use mathlib.Core.Path.{◌≡◌, refl, sym, ◌∙◌}
use mathlib.Core.Bool.{Bool, true, false, false≢true}
use mathlib.Core.List.{List, [], ◌∷◌, ◌++◌, append_assoc}
use native.Mathlib.Omega.{arith}
use native.Mathlib.Numerals.{add-one}
use lib.Dec.{eqb}
use lib.ListN.{length, length-append, take-append-drop}
use lib.Ieee.{Float, binary64, to_bits, nan, inf, fin, is_nan}
use Rattle.seq.specs.Choice.{pick}
use Rattle.seq.specs.Sums.{at}
use Rattle.fields.specs.Bytes.{tab, newline}
use Rattle.fields.specs.Texts.{bits_text, count_text, tabbed, note_text}
use Rattle.fields.specs.Steps.{WroteOn}
use Rattle.fields.proofs.Widths.{length-bits, length-count, width_most}
use Rattle.fields.proofs.Puts.{on_two, length-tabbed, length_note}
use Rattle.answers.specs.declared.Answer.{Answer}
use Rattle.answering.specs.Words.{ok_word, weight_word, refused_word}
use Rattle.answering.specs.Answer.{ok_line, weight_line, weight_lines, answer_text}
use Rattle.answering.specs.Steps.{Wrote}
use Rattle.answering.proofs.Puts.{front_of, front_more}

-- the NaN has one pattern
pub nan-bits : (x : Float) → is_nan x ≡ true → 0x7ff8_0000_0000_0000 ≡ to_bits binary64 x
unfolding to_bits is_nan
nan-bits nan h = refl
nan-bits (inf s) h = absurd (false≢true h)
nan-bits (fin s m e) h = absurd (false≢true h)

-- bits and a newline
abbrev pub last : Float → List ℕ
last x = bits_text (to_bits binary64 x) ++ (newline ∷ [])

pub length_last : (x : Float) → length (last x) ≡ 17
length_last x = length-append (bits_text (to_bits binary64 x)) (newline ∷ []) ∙ omega (arith, length-bits (to_bits binary64 x))

pub last_wrote : {out o o' : List ℕ} {a b r : ℕ} (x : Float) (y : ℕ) → a + 17 ≤ length out → y ≡ to_bits binary64 x → WroteOn (bits_text y) a out b o
    → WroteOn (newline ∷ []) b o r o' → WroteOn (last x) a out r o'
last_wrote x y h e p q = on_two (rw e at p) q (omega (arith, length-bits (to_bits binary64 x)))

pub length_ok : (s : Answer) → length (ok_line s) ≤ 62
unfolding ok_line
length_ok s =
    rw (
      length-append (count_text s.stage) (tab ∷ (count_text s.nonzeros ++ (tab ∷ last s.change))),
      length-append (count_text s.nonzeros) (tab ∷ last s.change),
    )
    (omega (arith, length-count s.stage, width_most s.stage, length-count s.nonzeros, width_most s.nonzeros, length_last s.change))

-- the first line
pub ok_wrote : (s : Answer) (out : List ℕ) (a : ℕ) (o : List ℕ) (b : ℕ) (o' : List ℕ) (d : ℕ) (o'' : List ℕ) (r : ℕ) (o''' : List ℕ) → 62 ≤ length out
    → length o ≡ length out → length o' ≡ length out
    → WroteOn ok_word 0 out a o → WroteOn (tabbed s.stage) a o b o' → WroteOn (tabbed s.nonzeros) b o' d o''
    → WroteOn (last s.change) d o'' r o''' → Wrote (ok_line s) out r o'''
unfolding ok_line
ok_wrote s out a o b o' d o'' r o''' h g k p q t v =
    let x = length-tabbed s.stage in
    let y = length-tabbed s.nonzeros in
    let f = width_most s.stage in
    let e = width_most s.nonzeros in
    let z = length_last s.change in
    let tail = on_two t v (omega (arith, q.ends, p.ends)) in
    let rest = on_two q (rw (append_assoc (count_text s.nonzeros) (tab ∷ []) (last s.change)) at tail) (omega (arith, p.ends)) in
    let whole = on_two p
    (rw (append_assoc (count_text s.stage) (tab ∷ []) (count_text s.nonzeros ++ (tab ∷ last s.change))) at rest)
    (omega arith) in
    front_of whole (omega (arith, length_ok s))

-- a weight's line
pub weight_wrote : (j : ℕ) (w : Float) (i : ℕ) (out : List ℕ) (a : ℕ) (o : List ℕ) (b : ℕ) (o' : List ℕ) (r : ℕ) (o'' : List ℕ) → i + 40 ≤ length out
    → length o ≡ length out
    → WroteOn weight_word i out a o → WroteOn (tabbed j) a o b o' → WroteOn (last w) b o' r o''
    → WroteOn (weight_line j w) i out r o''
weight_wrote j w i out a o b o' r o'' h g p q t =
    let x = length-tabbed j in
    let f = width_most j in
    let rest = on_two q t (omega (arith, p.ends)) in
    on_two p (rw (append_assoc (count_text j) (tab ∷ []) (last w)) at rest) (omega arith)

pub length_line : (j : ℕ) (w : Float) → length (weight_line j w) ≤ 40
length_line j w =
    rw (length-append (count_text j) (tab ∷ last w)) (omega (arith, length-count j, width_most j, length_last w))

pub length_lines : (w : List Float) (k : ℕ) → length (weight_lines w k) ≤ 40 * k
unfolding weight_lines
length_lines w zero = omega arith
length_lines w (suc k) = rw (length-append (weight_lines w k) (weight_line k (at w k))) (omega (arith, length_lines w k, length_line k (at w k)))

-- the lines of the first j weights are put
pub record Lining (w : List Float) (i : ℕ) (out : List ℕ) (j : ℕ) (r : ℕ) (o : List ℕ) : Type 0 where
  pub upto : j ≤ length w
  pub near : r ≤ i + 40 * j
  pub same : length o ≡ length out
  pub is : WroteOn (weight_lines w j) i out r o

pub lining_start : (w : List Float) (i : ℕ) (out : List ℕ) → Lining w i out 0 i out
unfolding weight_lines
lining_start w i out =
    record {
      upto = omega arith;
      near = omega arith;
      same = refl;
      is = record { ends = omega arith; puts = sym (take-append-drop i out) };
    }

lines_more : (w : List Float) (j : ℕ) → weight_lines w (j + 1) ≡ weight_lines w j ++ weight_line j (at w j)
unfolding weight_lines
lines_more w j = rw add-one

pub lining_turn : {w : List Float} {i : ℕ} {out : List ℕ} {j r : ℕ} {o : List ℕ} (r' : ℕ) (o' : List ℕ) → Lining w i out j r o → j < length w
    → i + 40 * length w ≤ length out → length o' ≡ length o → WroteOn (weight_line j (at w j)) r o r' o' → Lining w i out (j + 1) r' o'
lining_turn {w} {i} {out} {j} {r} {o} r' o' e h g l q =
    record {
      upto = omega arith;
      near = omega (arith, e.near, q.ends, length_line j (at w j));
      same = l ∙ e.same;
      is = rw (lines_more w j) (on_two e.is q (omega (arith, length_lines w j)));
    }

pub lining_whole : {w : List Float} {i : ℕ} {out : List ℕ} {j r : ℕ} {o : List ℕ} → Lining w i out j r o → length w ≤ j
    → WroteOn (weight_lines w (length w)) i out r o
lining_whole {w} {i} {out} {j} {r} {o} e h =
    let p : j ≡ length w = omega (arith, e.upto) in
    rw p at e.is

-- the answer of a job: a refusal's note, or the first line and the weights'
pub answer_refused : (s : Answer) (w : List Float) (out : List ℕ) (r : ℕ) (o : List ℕ) → (s.number ≡ 0 → ⊥) → 62 ≤ length out
    → WroteOn (note_text refused_word s.number) 0 out r o → Wrote (answer_text s w) out r o
unfolding answer_text
answer_refused s w out r o h g e =
    rw (ne_eqb s.number 0 h) (front_of e (omega (arith, length_note refused_word s.number, width_most s.number)))

pub answer_accepted : (s : Answer) (w : List Float) (out : List ℕ) (a : ℕ) (o : List ℕ) (r : ℕ) (o' : List ℕ) → s.number ≡ 0
    → 62 + 40 * length w ≤ length out → a ≤ 62
    → Wrote (ok_line s) out a o → WroteOn (weight_lines w (length w)) a o r o' → Wrote (answer_text s w) out r o'
unfolding answer_text
answer_accepted s w out a o r o' h g k e f =
    rw (eq-eqb s.number 0 h) (front_more e f (omega (arith, length_lines w (length w))))

-- how long a job's answer can be
pub length_answer : (s : Answer) (w : List Float) → length w ≤ 32 → length (answer_text s w) ≤ 1342
unfolding answer_text
length_answer s w h = go (eqb s.number 0)
  where
    go : (t : Bool) → length (pick t (ok_line s ++ weight_lines w (length w)) (note_text refused_word s.number)) ≤ 1342
    go true = rw (length-append (ok_line s) (weight_lines w (length w))) (omega (arith, length_ok s, length_lines w (length w)))
    go false = omega (arith, length_note refused_word s.number, width_most s.number)
