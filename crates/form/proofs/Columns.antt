-- The loop that counts columns: those that are passed, and those that stand from there.
use Prim.Native.Nat.{ℕ, suc, ◌+◌, ◌*◌, ◌-◌, ◌≤◌, ◌<◌}
use mathlib.Core.Path.{◌≡◌, refl, ap, ◌∙◌}
use mathlib.Core.Bool.{Bool, true, false}
use mathlib.Core.List.{List}
use native.Mathlib.Omega.{arith}
use Rattle.seq.specs.Choice.{pick}
use Rattle.form.specs.Form.{line_long, is_column, columns_from}

pub one_column : (t : List ℕ) (n i k : ℕ) → is_column t n i ≡ true → columns_from t n i (suc k) ≡ suc (columns_from t n (i + line_long n) k)
unfolding columns_from
one_column t n i k h = ap (λ (s : Bool). pick s (suc (columns_from t n (i + line_long n) k)) 0) h

pub no_column : (t : List ℕ) (n i k : ℕ) → is_column t n i ≡ false → columns_from t n i (suc k) ≡ 0
unfolding columns_from
no_column t n i k h = ap (λ (s : Bool). pick s (suc (columns_from t n (i + line_long n) k)) 0) h

pub none_asked : (t : List ℕ) (n i : ℕ) → columns_from t n i 0 ≡ 0
unfolding columns_from
none_asked t n i = refl

-- after j columns: as many as they are, and as stand from there
pub record Passed (t : List ℕ) (n i m j : ℕ) : Type 0 where
  pub upto : j ≤ m
  pub is : columns_from t n i m ≡ j + columns_from t n (i + j * line_long n) (m - j)

pub passed_start : (t : List ℕ) (n i m : ℕ) → Passed t n i m 0
passed_start t n i m =
    let p : i + 0 * line_long n ≡ i = omega arith in
    let q : m - 0 ≡ m = omega arith in
    record { upto = omega arith; is = rw (p, q) (omega arith) }

pub passed-turn : {t : List ℕ} {n i m j : ℕ} → Passed t n i m j → j < m → is_column t n (i + j * line_long n) ≡ true → Passed t n i m (j + 1)
passed-turn {t} {n} {i} {m} {j} e h g =
    let p : m - j ≡ suc (m - (j + 1)) = omega arith in
    let q : i + j * line_long n + line_long n ≡ i + (j + 1) * line_long n = omega arith in
    let r : columns_from t n (i + j * line_long n) (m - j) ≡ suc (columns_from t n (i + (j + 1) * line_long n) (m - (j + 1))) =
    ap (columns_from t n (i + j * line_long n)) p ∙ one_column t n (i + j * line_long n) (m - (j + 1)) g
    ∙ ap (λ (x : ℕ). suc (columns_from t n x (m - (j + 1)))) q in
    record { upto = omega arith; is = e.is ∙ omega (arith, r) }

pub passed-left : {t : List ℕ} {n i m j : ℕ} → Passed t n i m j → j < m → is_column t n (i + j * line_long n) ≡ false → j ≡ columns_from t n i m
passed-left {t} {n} {i} {m} {j} e h g =
    let p : m - j ≡ suc (m - (j + 1)) = omega arith in
    let r : columns_from t n (i + j * line_long n) (m - j) ≡ 0 =
    ap (columns_from t n (i + j * line_long n)) p ∙ no_column t n (i + j * line_long n) (m - (j + 1)) g in
    omega (arith, r, e.is)

pub passed-whole : {t : List ℕ} {n i m j : ℕ} → Passed t n i m j → m ≤ j → j ≡ columns_from t n i m
passed-whole {t} {n} {i} {m} {j} e h =
    let p : m - j ≡ 0 = omega (arith, e.upto) in
    let r : columns_from t n (i + j * line_long n) (m - j) ≡ 0 =
    ap (columns_from t n (i + j * line_long n)) p ∙ none_asked t n (i + j * line_long n) in
    omega (arith, r, e.is)
