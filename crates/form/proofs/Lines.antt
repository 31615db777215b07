-- A text of which no line is wrong: its first line is good, every column is one, and it ends behind the last. By the four answers of `wrong_line`.
use borrow.Author.Tests.{eqb-true, eqb-false}
use Prim.Native.Nat.{ℕ, zero, suc, ◌+◌, ◌*◌, ◌≤◌, ◌<◌}
use mathlib.Core.Path.{◌≡◌, refl, sym, ap, ◌∙◌}
use mathlib.Core.Bool.{Bool, true, false}
use mathlib.Core.List.{List}
use native.Mathlib.Decide.{dec_lt}
use native.Mathlib.Omega.{arith}
use lib.Dec.{eqb}
use lib.ListN.{length}
use Rattle.head.specs.FirstLine.{has_head, head_of}
use Rattle.head.specs.declared.Head.{Head}
use Rattle.form.specs.Form.{line_long, is_column, columns_from, end_of, wrong_line}
use Rattle.form.proofs.Columns.{one_column, no_column, none_asked}
use Rattle.form.proofs.Verdicts.{Sized, sized, first_wrong, column_wrong, none_wrong, end_wrong}

-- each of k lines is a column where none of them is not
pub every_column : (t : List ℕ) (n i k : ℕ) → k ≤ columns_from t n i k → (j : ℕ) → j < k → is_column t n (i + j * line_long n) ≡ true
every_column t n i zero h j g = absurd (omega arith)
every_column t n i (suc k) h j g = go (is_column t n i) refl (every_column t n (i + line_long n) k) j g
  where
    go : (s : Bool) → is_column t n i ≡ s
        → (k ≤ columns_from t n (i + line_long n) k → (q : ℕ) → q < k → is_column t n (i + line_long n + q * line_long n) ≡ true)
        → (q : ℕ) → q < suc k → is_column t n (i + q * line_long n) ≡ true
    go false e r q l = absurd (omega (arith, no_column t n i k e))
    go true e r zero l =
        let p : i + 0 * line_long n ≡ i = omega arith in
        rw p e
    go true e r (suc q) l =
        let p : i + suc q * line_long n ≡ i + line_long n + q * line_long n = omega arith in
        rw p (r (omega (arith, one_column t n i k e)) q (omega arith))

-- and back
pub all_columns : (t : List ℕ) (n i k : ℕ) → ((j : ℕ) → j < k → is_column t n (i + j * line_long n) ≡ true) → columns_from t n i k ≡ k
all_columns t n i zero h = none_asked t n i
all_columns t n i (suc k) h =
    let p : i + 0 * line_long n ≡ i = omega arith in
    let q : (j : ℕ) → i + suc j * line_long n ≡ i + line_long n + j * line_long n = λ j. omega arith in
    one_column t n i k (rw p at (h 0 (omega arith)))
    ∙ ap suc (all_columns t n (i + line_long n) k (λ j g. rw (q j) at (h (suc j) (omega arith))))

pub record Right (t : List ℕ) : Type 0 where
  pub first : has_head t ≡ true
  pub columns : (j : ℕ) → j < (head_of t).m → is_column t (head_of t).n ((head_of t).next + j * line_long (head_of t).n) ≡ true
  pub long : length t ≡ end_of (head_of t)

pub right : (t : List ℕ) → wrong_line t ≡ 0 → Right t
right t h = go (has_head t) refl
  where
    last : (s : Bool) → eqb (length t) (end_of (head_of t)) ≡ s → has_head t ≡ true
        → (head_of t).m ≤ columns_from t (head_of t).n (head_of t).next (head_of t).m → Right t
    last true e f l =
        record {
          first = f;
          columns = every_column t (head_of t).n (head_of t).next (head_of t).m l;
          long = eqb-true (length t) (end_of (head_of t)) e;
        }
    last false e f l = absurd (omega (arith, end_wrong t (head_of t) _ refl f refl l (eqb-false (length t) (end_of (head_of t)) e)))

    more : Dec (columns_from t (head_of t).n (head_of t).next (head_of t).m < (head_of t).m) → has_head t ≡ true → Right t
    more (yes l) f = absurd (omega (arith, column_wrong t (head_of t) _ refl f refl l))
    more (no l) f = last (eqb (length t) (end_of (head_of t))) refl f (omega arith)

    go : (s : Bool) → has_head t ≡ s → Right t
    go false e = absurd (omega (arith, first_wrong t (head_of t) refl e))
    go true e = more (dec_lt _ _) e

pub right-back : (t : List ℕ) → Right t → wrong_line t ≡ 0
right-back t r =
    let e : columns_from t (head_of t).n (head_of t).next (head_of t).m ≡ (head_of t).m =
    all_columns t (head_of t).n (head_of t).next (head_of t).m r.columns in
    sym (none_wrong t (head_of t) (head_of t).m refl r.first (sym e) (omega arith) r.long)

-- what a text of which no line is wrong says of the sizes
pub sized_right : (t : List ℕ) (h : Head) → h ≡ head_of t → wrong_line t ≡ 0 → Sized h
sized_right t h e z = sized t h e (right t z).first
