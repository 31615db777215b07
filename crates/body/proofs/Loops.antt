-- The line of a column, and the loops that write entries and columns: those that are passed are put.
use Prim.Native.Nat.{ℕ, zero, suc, ◌+◌, ◌*◌, ◌≤◌, ◌<◌}
use mathlib.Core.Path.{◌≡◌, refl, sym, ap, ◌∙◌}
use mathlib.Core.List.{List, [], ◌∷◌, ◌++◌}
use native.Mathlib.Nat.{mul-le-mul, mul-le-mul_right}
use native.Mathlib.Omega.{arith}
use native.Mathlib.Numerals.{add-one}
use lib.ListN.{length, get_or, take-append-drop}
use Rattle.seq.specs.Lists.{part}
use Rattle.seq.proofs.Parts.{get_d_part, length_part}
use Rattle.fields.specs.Bytes.{tab, newline}
use Rattle.fields.specs.Texts.{bits_text}
use Rattle.fields.specs.Steps.{WroteOn}
use Rattle.fields.proofs.Widths.{length-bits}
use Rattle.fields.proofs.Puts.{on_two}
use Rattle.form.specs.Form.{col_word, line_long}
use Rattle.form.specs.Sheets.{entries_text, column_text, columns_text}
use Rattle.form.proofs.OfForm.{length_entries, length_column, length-columns}

-- the line of a column
pub column_wrote : {out o o' o'' o''' : List ℕ} {i a b d r : ℕ} (k x : ℕ) (e : ℕ → ℕ) → i + 21 + 17 * k ≤ length out → length o ≡ length out
    → length o' ≡ length out → WroteOn col_word i out a o → WroteOn (bits_text x) a o b o' → WroteOn (entries_text e k) b o' d o''
    → WroteOn (newline ∷ []) d o'' r o''' → WroteOn (column_text k x e) i out r o'''
unfolding column_text
column_wrote k x e h g j p q s t =
    let l = length-bits x in
    on_two p (on_two q (on_two s t (omega (arith, p.ends, q.ends, length_entries e k))) (omega (arith, p.ends))) (omega arith)

-- nothing is put
pub none_wrote : (i : ℕ) (out : List ℕ) → WroteOn [] i out i out
none_wrote i out = record { ends = omega arith; puts = sym (take-append-drop i out) }

-- the first k entries are put
pub record Entering (xs : List ℕ) (i : ℕ) (out : List ℕ) (k r : ℕ) (o : List ℕ) : Type 0 where
  pub upto : k ≤ length xs
  pub near : r ≡ i + 17 * k
  pub same : length o ≡ length out
  pub is : WroteOn (entries_text (λ j. get_or xs j 0) k) i out r o

pub entering_start : (xs : List ℕ) (i : ℕ) (out : List ℕ) → Entering xs i out 0 i out
unfolding entries_text
entering_start xs i out = record { upto = omega arith; near = omega arith; same = refl; is = none_wrote i out }

entries_more : (e : ℕ → ℕ) (k : ℕ) → entries_text e (k + 1) ≡ entries_text e k ++ (tab ∷ bits_text (e k))
unfolding entries_text
entries_more e k = rw add-one

pub entering_turn : {xs : List ℕ} {i : ℕ} {out : List ℕ} {k r : ℕ} {o : List ℕ} (r' : ℕ) (o' : List ℕ) → Entering xs i out k r o → k < length xs
    → i + 17 * length xs ≤ length out → length o' ≡ length o → WroteOn (tab ∷ bits_text (get_or xs k 0)) r o r' o' → Entering xs i out (k + 1) r' o'
entering_turn {xs} {i} {out} {k} {r} {o} r' o' e h g l q =
    record {
      upto = omega arith;
      near = omega (arith, e.near, q.ends, length-bits (get_or xs k 0));
      same = l ∙ e.same;
      is = rw (entries_more (λ j. get_or xs j 0) k) (on_two e.is q (omega (arith, length_entries (λ j. get_or xs j 0) k)));
    }

pub entering_whole : {xs : List ℕ} {i : ℕ} {out : List ℕ} {k r : ℕ} {o : List ℕ} → Entering xs i out k r o → length xs ≤ k
    → WroteOn (entries_text (λ j. get_or xs j 0) (length xs)) i out r o
entering_whole {xs} {i} {out} {k} {r} {o} e h =
    let p : k ≡ length xs = omega (arith, e.upto) in
    rw p at e.is

-- entries that are the same are written the same
pub entries_same : (e f : ℕ → ℕ) (k : ℕ) → ((j : ℕ) → j < k → e j ≡ f j) → entries_text e k ≡ entries_text f k
unfolding entries_text
entries_same e f zero h = refl
entries_same e f (suc k) h = rw (entries_same e f k (λ j g. h j (omega arith)), h k (omega arith))

pub column_same : (n w v : ℕ) (e f : ℕ → ℕ) → w ≡ v → ((i : ℕ) → i < n → e i ≡ f i) → column_text n w e ≡ column_text n v f
unfolding column_text
column_same n w v e f p h = rw (p, entries_same e f n h)

pub columns_same : (n : ℕ) (w v : ℕ → ℕ) (e f : ℕ → ℕ → ℕ) (k : ℕ) → ((j : ℕ) → j < k → w j ≡ v j)
    → ((j i : ℕ) → j < k → i < n → e j i ≡ f j i) → columns_text n w e k ≡ columns_text n v f k
unfolding columns_text
columns_same n w v e f zero h g = refl
columns_same n w v e f (suc k) h g =
    rw (columns_same n w v e f k (λ j l. h j (omega arith)) (λ j i l m. g j i (omega arith) m))
    (ap (λ (line : List ℕ). columns_text n v f k ++ line) (column_same n (w k) (v k) (e k) (f k) (h k (omega arith)) (λ i l. g k i (omega arith) l)))

-- a column's entries, lent as a part of the matrix
pub column_lent : (matrix xs : List ℕ) (n j w : ℕ) → j * n + n ≤ length matrix → xs ≡ part (j * n) n matrix
    → column_text (length xs) w (λ i. get_or xs i 0) ≡ column_text n w (λ i. get_or matrix (j * n + i) 0)
column_lent matrix xs n j w h e =
    let l : length xs ≡ n = ap length e ∙ length_part (j * n) n matrix h in
    ap (λ (k : ℕ). column_text k w (λ i. get_or xs i 0)) l
    ∙ column_same n w w (λ i. get_or xs i 0) (λ i. get_or matrix (j * n + i) 0) refl
    (λ i g. ap (λ (s : List ℕ). get_or s i 0) e ∙ get_d_part (j * n) n i matrix 0 g)

-- a column stands within the matrix
pub column_inside : (j k n : ℕ) → j < k → k ≤ 32 → n ≤ 64 → (j * n + n ≤ k * n) × (k * n ≤ 2048)
column_inside j k n h g l = (omega (arith, mul-le-mul_right n h), mul-le-mul g l)

-- where a column of at most 32 ends
pub column_ends : (j k n : ℕ) → j < k → k ≤ 32 → n ≤ 64 → suc j * line_long n ≤ 35488
column_ends j k n h g l =
    let p : suc j ≤ 32 = omega arith in
    let q : line_long n ≤ 1109 = omega arith in
    omega (arith, mul-le-mul p q)

-- the lines of the first j columns are put
pub record Columning (matrix : List ℕ) (n : ℕ) (weights : List ℕ) (i : ℕ) (out : List ℕ) (j r : ℕ) (o : List ℕ) : Type 0 where
  pub upto : j ≤ length weights
  pub near : r ≡ i + j * line_long n
  pub same : length o ≡ length out
  pub is : WroteOn (columns_text n (λ k. get_or weights k 0) (λ k l. get_or matrix (k * n + l) 0) j) i out r o

pub columning_start : (matrix : List ℕ) (n : ℕ) (weights : List ℕ) (i : ℕ) (out : List ℕ) → Columning matrix n weights i out 0 i out
unfolding columns_text
columning_start matrix n weights i out = record { upto = omega arith; near = omega arith; same = refl; is = none_wrote i out }

columns-more : (n : ℕ) (w : ℕ → ℕ) (e : ℕ → ℕ → ℕ) (j : ℕ) → columns_text n w e (j + 1) ≡ columns_text n w e j ++ column_text n (w j) (e j)
unfolding columns_text
columns-more n w e j = rw add-one

pub columning_turn : {matrix : List ℕ} {n : ℕ} {weights : List ℕ} {i : ℕ} {out : List ℕ} {j r : ℕ} {o : List ℕ} (r' : ℕ) (o' xs : List ℕ)
    → Columning matrix n weights i out j r o → j < length weights → i ≤ 111 → length weights ≤ 32 → n ≤ 64 → 35600 ≤ length out
    → length o' ≡ length o → j * n + n ≤ length matrix → xs ≡ part (j * n) n matrix
    → WroteOn (column_text (length xs) (get_or weights j 0) (λ l. get_or xs l 0)) r o r' o' → Columning matrix n weights i out (j + 1) r' o'
columning_turn {matrix} {n} {weights} {i} {out} {j} {r} {o} r' o' xs e h a b d g l k s q =
    let w : ℕ → ℕ = λ x. get_or weights x 0 in
    let f : ℕ → ℕ → ℕ = λ x y. get_or matrix (x * n + y) 0 in
    let q' : WroteOn (column_text n (w j) (f j)) r o r' o' = rw (column_lent matrix xs n j (w j) k s) at q in
    let room = column_ends j (length weights) n h b d in
    record {
      upto = omega arith;
      near = omega (arith, e.near, q'.ends, length_column n (w j) (f j));
      same = l ∙ e.same;
      is = rw (columns-more n w f j) (on_two e.is q' (omega (arith, length-columns n w f j)));
    }

pub columning_whole : {matrix : List ℕ} {n : ℕ} {weights : List ℕ} {i : ℕ} {out : List ℕ} {j r : ℕ} {o : List ℕ}
    → Columning matrix n weights i out j r o → length weights ≤ j
    → WroteOn (columns_text n (λ k. get_or weights k 0) (λ k l. get_or matrix (k * n + l) 0) (length weights)) i out r o
columning_whole {matrix} {n} {weights} {i} {out} {j} {r} {o} e h =
    let p : j ≡ length weights = omega (arith, e.upto) in
    rw p at e.is
