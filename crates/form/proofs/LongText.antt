-- A text of more than 40000 bytes has a wrong line, and every text that begins with it has the same first one: every place that is read lies before, and a
-- sheet of the form is shorter.
use Prim.Native.Nat.{ℕ, zero, suc, ◌+◌, ◌*◌, ◌≤◌, ◌<◌}
use mathlib.Core.Path.{◌≡◌, refl, sym, ap, ◌∙◌}
use mathlib.Core.Bool.{Bool, true, false, ◌&&◌}
use mathlib.Core.List.{List, ◌++◌}
use native.Mathlib.Decide.{dec_lt}
use native.Mathlib.Omega.{arith}
use lib.Dec.{eqb}
use lib.ListN.{length, take, drop, length-append, take-append-drop}
use lib.Seq.{length-take-le}
use Rattle.seq.specs.Keep.{all_to}
use Rattle.fields.specs.Bytes.{newline, byte_at, spelled}
use Rattle.fields.specs.Fields.{is_bits}
use Rattle.seq.proofs.Every.{every_same}
use Rattle.fields.proofs.Longer.{byte_longer, spelled_longer, bits_longer}
use Rattle.head.specs.FirstLine.{has_head, head_of}
use Rattle.head.proofs.Longer.{head_longer, has-head_longer}
use Rattle.form.specs.Form.{line_long, is_entry, col_word, is_column, columns_from, wrong_line}
use Rattle.form.proofs.Verdicts.{Sized, sized, first_wrong, column_wrong, end_wrong}

entry_longer : (t more : List ℕ) (i : ℕ) → i + 17 ≤ length t → is_entry (t ++ more) i ≡ is_entry t i
entry_longer t more i h = rw (byte_longer t more i (omega arith), bits_longer t more (suc i) (omega arith))

same_four : (a a' b b' c c' d d' : Bool) → a ≡ a' → b ≡ b' → c ≡ c' → d ≡ d' → ((a && b) && (c && d)) ≡ ((a' && b') && (c' && d'))
same_four a a' b b' c c' d d' p q r s = rw (p, q, r, s)

column_longer : (t more : List ℕ) (n i : ℕ) → i + line_long n ≤ length t → is_column (t ++ more) n i ≡ is_column t n i
unfolding is_column
column_longer t more n i h =
    same_four (spelled col_word (t ++ more) i) (spelled col_word t i) (is_bits (t ++ more) (i + 4)) (is_bits t (i + 4))
    (all_to (λ k. is_entry (t ++ more) (i + 20 + 17 * k)) n) (all_to (λ k. is_entry t (i + 20 + 17 * k)) n)
    (eqb (byte_at (t ++ more) (i + 20 + 17 * n)) newline) (eqb (byte_at t (i + 20 + 17 * n)) newline)
    (spelled_longer col_word t more i (omega arith)) (bits_longer t more (i + 4) (omega arith))
    (every_same (λ k. is_entry (t ++ more) (i + 20 + 17 * k)) (λ k. is_entry t (i + 20 + 17 * k)) n (λ j g. entry_longer t more (i + 20 + 17 * j) (omega arith)))
    (ap (λ (x : ℕ). eqb x newline) (byte_longer t more (i + 20 + 17 * n) (omega arith)))

columns_longer : (t more : List ℕ) (n i k : ℕ) → i + k * line_long n ≤ length t → columns_from (t ++ more) n i k ≡ columns_from t n i k
unfolding columns_from
columns_longer t more n i zero h = refl
columns_longer t more n i (suc k) h =
    rw (column_longer t more n i (omega arith), columns_longer t more n (i + line_long n) k (omega arith))

two : (x : ℕ) → suc (suc x) ≡ x + 2
two x = omega arith

-- the first wrong line of a text, which has one, and of every longer one
record Same (t u : List ℕ) : Type 0 where
  some : 0 < wrong_line t
  same : wrong_line u ≡ wrong_line t

long_text : (t more : List ℕ) → 40000 < length t → Same t (t ++ more)
long_text t more h = go (has_head t) refl
  where
    e : head_of t ≡ head_of (t ++ more)
    e = sym (head_longer t more (omega arith))

    e' : has_head (t ++ more) ≡ has_head t
    e' = has-head_longer t more (omega arith)

    same : (x : ℕ) → suc x ≡ wrong_line t → suc x ≡ wrong_line (t ++ more) → Same t (t ++ more)
    same x p q = record { some = omega arith; same = sym q ∙ p }

    count : ℕ
    count = columns_from t (head_of t).n (head_of t).next (head_of t).m

    after : has_head t ≡ true → Sized (head_of t) → Dec (count < (head_of t).m) → Same t (t ++ more)
    after f z d =
        let c : count ≡ columns_from (t ++ more) (head_of t).n (head_of t).next (head_of t).m =
        sym (columns_longer t more (head_of t).n (head_of t).next (head_of t).m (omega arith)) in
        let l : length (t ++ more) ≡ length t + length more = length-append t more in
        last f z d c l
      where
        last : has_head t ≡ true → Sized (head_of t) → Dec (count < (head_of t).m) → count ≡ columns_from (t ++ more) (head_of t).n (head_of t).next (head_of t).m
            → length (t ++ more) ≡ length t + length more → Same t (t ++ more)
        last f z (yes g) c l =
            same (suc count) (two count ∙ column_wrong t (head_of t) count refl f refl g) (two count ∙ column_wrong (t ++ more) (head_of t) count e (e' ∙ f) c g)
        last f z (no g) c l =
            same (suc (head_of t).m) (two (head_of t).m ∙ end_wrong t (head_of t) count refl f refl (omega arith) (λ p. omega arith))
            (two (head_of t).m ∙ end_wrong (t ++ more) (head_of t) count e (e' ∙ f) c (omega arith) (λ p. omega arith))

    go : (s : Bool) → has_head t ≡ s → Same t (t ++ more)
    go false f = same 0 (first_wrong t (head_of t) refl f) (first_wrong (t ++ more) (head_of t) e (e' ∙ f))
    go true f = after f (sized t (head_of t) refl f) (dec_lt count (head_of t).m)

-- A text of more than 40000 bytes has a wrong line.
pub long_text_is_wrong : (text : List ℕ) → 40000 < length text → 0 < wrong_line text
long_text_is_wrong text h = (long_text text text h).some

-- The first wrong line of such a text is that of every text that it begins.
pub longer_text_same_line : (text more : List ℕ) → 40000 < length text → wrong_line (text ++ more) ≡ wrong_line text
longer_text_same_line text more h = (long_text text more h).same

-- So the first k bytes of a longer text, k being more than 40000, have the first wrong line of the whole.
pub first_bytes_same_line : (text : List ℕ) (k : ℕ) → 40000 < k → k ≤ length text → wrong_line (take k text) ≡ wrong_line text
first_bytes_same_line text k h g =
    let l : length (take k text) ≡ k = length-take-le k text g in
    sym (longer_text_same_line (take k text) (drop k text) (omega arith)) ∙ ap wrong_line (take-append-drop k text)
