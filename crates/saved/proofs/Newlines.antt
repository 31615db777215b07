-- The lines of a text, read byte by byte, are the lines that it is made of; and a line more is one line more.
use borrow.Author.Tests.{eqb-true}
use Prim.Native.Nat.{ℕ, suc, ◌+◌, ◌<◌}
use mathlib.Core.Path.{◌≡◌, refl, sym, ap, ◌∙◌, subst}
use mathlib.Core.Bool.{Bool, true, false}
use mathlib.Core.List.{List, [], ◌∷◌, ◌++◌, append-nil, append_assoc}
use native.Mathlib.Omega.{arith}
use native.Mathlib.Decide.{dec_lt}
use lib.Dec.{eqb}
use lib.ListN.{length, take, drop}
use lib.Seq.{split_at}
use Rattle.seq.specs.Choice.{pick}
use Rattle.fields.specs.Bytes.{newline}
use Rattle.gathering.specs.Lines.{Lines, no_lines, more, after, line_at}
use Rattle.gathering.proofs.Indexed.{with_line, many_lines, line_before, line_new}
use Rattle.gathering.proofs.Parted.{pieces_are_the_whole}
use Rattle.saved.specs.Whole.{joined, newlines, Whole, LinesOf}

pub joined-more : (lines : List (List ℕ)) (line : List ℕ) → joined (lines ++ (line ∷ [])) ≡ joined lines ++ line
unfolding joined
joined-more [] line = append-nil line
joined-more (l ∷ lines) line = rw (joined-more lines line) (sym (append_assoc l (joined lines) line))

pub joined-two : (a b : List (List ℕ)) → joined (a ++ b) ≡ joined a ++ joined b
unfolding joined
joined-two [] b = refl
joined-two (l ∷ a) b = rw (joined-two a b) (sym (append_assoc l (joined a) (joined b)))

pub newlines-two : (a b : List ℕ) → newlines (a ++ b) ≡ newlines a + newlines b
unfolding newlines
newlines-two [] b = omega arith
newlines-two (x ∷ a) b = rw (newlines-two a b) (omega arith)

-- two texts in a row with no newline
pub plain-two : (a b : List ℕ) → newlines a ≡ 0 → newlines b ≡ 0 → newlines (a ++ b) ≡ 0
plain-two a b h g = omega (arith, newlines-two a b)

-- each line of one line more
line_in : (s : Lines) (line : List ℕ) → Whole line → ((j : ℕ) → j < length s.done → Whole (line_at s j))
    → (j : ℕ) → j < length (with_line s line).done → Whole (line_at (with_line s line) j)
line_in s line w h j g = go (dec_lt j (length s.done))
  where
    go : Dec (j < length s.done) → Whole (line_at (with_line s line) j)
    go (yes l) = subst (λ (x : List ℕ). Whole x) (sym (line_before s line j l)) (h j l)
    go (no l) =
        let p : length s.done ≡ j = omega (arith, many_lines s line) in
        subst (λ (x : List ℕ). Whole x) (sym (sym (ap (line_at (with_line s line)) p) ∙ line_new s line)) w

-- one byte more
one_more : {t : List ℕ} {s : Lines} → LinesOf t s → (b : ℕ) → LinesOf (t ++ (b ∷ [])) (more s b)
unfolding more newlines
one_more {t} {s} e b = go (eqb b newline) refl
  where
    go : (x : Bool) → eqb b newline ≡ x
        → LinesOf (t ++ (b ∷ []))
        (pick x (record { done = s.done ++ ((s.rest ++ (b ∷ [])) ∷ []); rest = [] }) (record { done = s.done; rest = s.rest ++ (b ∷ []) }))
    go true h =
        let line : List ℕ = s.rest ++ (b ∷ []) in
        let last : Whole line = record { body = s.rest; ends = ap (λ (x : ℕ). s.rest ++ (x ∷ [])) (eqb-true b newline h); plain = e.piece } in
        record {
          all = append-nil _ ∙ joined-more s.done line ∙ sym (append_assoc (joined s.done) s.rest (b ∷ []))
              ∙ ap (λ (x : List ℕ). x ++ (b ∷ [])) e.all;
          lines = line_in s line last e.lines;
          piece = refl;
        }
    go false h =
        record {
          all = sym (append_assoc (joined s.done) s.rest (b ∷ [])) ∙ ap (λ (x : List ℕ). x ++ (b ∷ [])) e.all;
          lines = e.lines;
          piece = newlines-two s.rest (b ∷ []) ∙ rw (e.piece, h);
        }

text_more : {t : List ℕ} {s : Lines} → LinesOf t s → (u : List ℕ) → LinesOf (t ++ u) (after s u)
unfolding after
text_more {t} {s} e [] = subst (λ (x : List ℕ). LinesOf x s) (sym (append-nil t)) e
text_more {t} {s} e (b ∷ u) =
    subst (λ (x : List ℕ). LinesOf x (after (more s b) u)) (append_assoc t (b ∷ []) u) (text_more {t = t ++ (b ∷ [])} {s = more s b} (one_more e b) u)

-- The lines of every text are the lines that it is made of.
pub lines_are_the_text : (text : List ℕ) → LinesOf text (after no_lines text)
unfolding joined newlines
lines_are_the_text text = text_more {t = []} {s = no_lines} (record { all = refl; lines = λ j h. absurd (omega arith); piece = refl }) text

-- so each stands in the text as it is
pub line_stands : (text : List ℕ) (s : Lines) → LinesOf text s → (j : ℕ) → j < length s.done
    → joined (take j s.done) ++ (line_at s j ++ (joined (drop (suc j) s.done) ++ s.rest)) ≡ text
unfolding joined
line_stands text s e j h =
    let a : List ℕ = joined (take j s.done) in
    let b : List ℕ = joined (drop (suc j) s.done) in
    let p : joined s.done ≡ a ++ (line_at s j ++ b) =
    ap joined (split_at s.done j [] h) ∙ joined-two (take j s.done) (line_at s j ∷ drop (suc j) s.done) in
    ap (λ (x : List ℕ). a ++ x) (sym (append_assoc (line_at s j) b s.rest)) ∙ sym (append_assoc a (line_at s j ++ b) s.rest)
    ∙ ap (λ (x : List ℕ). x ++ s.rest) (sym p) ∙ e.all

within : (s : Lines) (b : ℕ) → eqb b newline ≡ false → more s b ≡ record { done = s.done; rest = s.rest ++ (b ∷ []) }
unfolding more
within s b e = rw e

not_newline : (b k : ℕ) → pick (eqb b newline) 1 0 + k ≡ 0 → eqb b newline ≡ false
not_newline b k h = go (eqb b newline) h
  where
    go : (x : Bool) → pick x 1 0 + k ≡ 0 → x ≡ false
    go true g = absurd (omega arith)
    go false g = refl

closed : (s : Lines) → after s (newline ∷ []) ≡ with_line s (s.rest ++ (newline ∷ []))
unfolding after more
closed s = refl

-- a text with no newline belongs to the piece behind the last line
plain_more : (s : Lines) (text : List ℕ) → newlines text ≡ 0 → after s text ≡ record { done = s.done; rest = s.rest ++ text }
unfolding after newlines
plain_more s [] h = ap (λ (x : List ℕ). record { done = s.done; rest = x }) (sym (append-nil s.rest))
plain_more s (b ∷ text) h =
    let e : eqb b newline ≡ false = not_newline b (newlines text) h in
    ap (λ (x : Lines). after x text) (within s b e)
    ∙ plain_more (record { done = s.done; rest = s.rest ++ (b ∷ []) }) text (omega (arith, ap {B = ℕ} (λ (x : Bool). pick x 1 0) e))
    ∙ ap (λ (x : List ℕ). record { done = s.done; rest = x }) (append_assoc s.rest (b ∷ []) text)

-- a whole line is one line more
pub line_more : (s : Lines) (line : List ℕ) → s.rest ≡ [] → Whole line → after s line ≡ with_line s line
line_more s line r w =
    ap (after s) w.ends ∙ pieces_are_the_whole s w.body (newline ∷ []) ∙ ap (λ (x : Lines). after x (newline ∷ [])) (plain_more s w.body w.plain)
    ∙ closed (record { done = s.done; rest = s.rest ++ w.body })
    ∙ ap (λ (x : List ℕ). with_line s x) (ap (λ (x : List ℕ). (x ++ w.body) ++ (newline ∷ [])) r ∙ sym w.ends)
