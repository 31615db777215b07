-- What is of the form is taken: the text of a sheet that fits has no wrong line, and what is read from it is what the sheet says. The text is parted at
-- the fields, each is read where it stands.
use Rattle.std.specs.Prelude.{None, Option, Some}
use borrow.Author.Tests.{eqb-true, eqb-false, leb-true, ltb-true, le-leb}
use Prim.Native.Nat.{ℕ, zero, suc, ◌+◌, ◌*◌, ◌/◌, ◌%◌, ◌^◌, ◌≤◌, ◌<◌}
use mathlib.Core.Path.{◌≡◌, refl, sym, ap, ◌∙◌, subst}
use mathlib.Core.Bool.{Bool, true, false, ◌&&◌, false≢true}
use mathlib.Core.List.{List, [], ◌∷◌, ◌++◌}
use native.Mathlib.Nat.{mod-lt, div-lt_iff_lt-mul}
use native.Mathlib.Numerals.{add-one}
use native.Mathlib.Decide.{dec_lt}
use native.Mathlib.Omega.{arith}
use lib.Dec.{eqb, leb, ltb}
use Rattle.seq.specs.Choice.{pick}
use lib.ListN.{length, length-append}
use lib.Ieee.{binary64, of_bits}
use Rattle.seq.proofs.Filling.{tab_cong}
use Rattle.seq.specs.Keep.{all_to}
use Rattle.fields.specs.Bytes.{tab, newline, byte_at, spelled}
use Rattle.fields.specs.Digits.{is_digit, number_at}
use Rattle.fields.specs.Fields.{is_bits, bits_at, has_count, count_at}
use Rattle.fields.specs.Texts.{bits_text, count_text}
use Rattle.fields.specs.declared.Field.{Field}
use Rattle.seq.proofs.Choosing.{both}
use Rattle.seq.proofs.Every.{every_holds}
use Rattle.fields.proofs.Widths.{length-bits}
use Rattle.fields.proofs.Words.{spelled_at}
use Rattle.rules.specs.declared.Rule.TheVariants.{Target, Within}
use Rattle.head.specs.Words.{thin_word, target_word, within_word, second_edition, dash}
use Rattle.head.specs.FirstLine.{has_cap, cap_at, has_within, within_at, has_rule, rule_at}
use Rattle.head.specs.FirstLine.{has_sizes, sizes_at, has_edition, edition_at, has_head, head_of}
use Rattle.head.specs.declared.Head.{Head}
use Rattle.head.specs.declared.RuleField.{RuleField}
use Rattle.head.specs.declared.Sizes.{Sizes}
use Rattle.head.proofs.Fields.{cap_dash, cap_count, sizes_is, has_sizes_is, within_is, has_within_is}
use Rattle.head.proofs.Fields.{rule_target, rule_within, edition_two, edition_one, head_is, has_head_is}
use Rattle.form.specs.Form.{line_long, is_entry, col_word, is_column, end_of, wrong_line}
use Rattle.form.specs.Reading.{weight_bits, matrix_bits, weights_of, matrix_of}
use Rattle.form.specs.Sheets.{Wish, target, within, Sheet, cap_text, wish_text, edition_text, head_text, entries_text, column_text, columns_text}
use Rattle.form.specs.Sheets.{sheet_text, cap_fits, wish_fits, Fits, rule_of, allowance_of, Says}
use Rattle.form.proofs.Segments.{Seg, seg_first, seg_rest, seg_after, seg_byte, seg_word, seg_bits, seg_bits_at, seg_count, seg_digit, whole_seg}
use Rattle.form.proofs.Lines.{right-back}

-- the cap that stands from i to p, where no digit follows
cap_read : {t : List ℕ} {i p : ℕ} (cap : Option ℕ) → cap_fits cap ≡ true → Seg t i p (cap_text cap) → is_digit (byte_at t p) ≡ false
    → (has_cap t i ≡ true) × (cap_at t i ≡ record { cap = cap; next = p })
cap_read {t} {i} {p} None h a e =
    let k = cap_dash t i dash (sym (seg_byte a)) refl in
    (k.0, rw a.ends (sym k.1))
cap_read {t} {i} {p} (Some c) h a e =
    let f = seg_count c (leb-true c 4294967295 h) a e in
    let d : byte_at t i ≡ 45 → ⊥ = λ q. false≢true (ap is_digit (sym q) ∙ seg_digit c a) in
    let k = cap_count t i (byte_at t i) (record { value = c; next = p }) refl d (sym f.1) in
    (k.0 ∙ f.0, sym k.1)

-- the words of the two rules differ
not_target : (t : List ℕ) (i : ℕ) → spelled within_word t i ≡ true → spelled target_word t i ≡ false
not_target t i h = go (spelled target_word t i) refl
  where
    go : (s : Bool) → spelled target_word t i ≡ s → s ≡ false
    go false e = refl
    go true e =
        let p : byte_at t (i + 0) ≡ 116 = spelled_at target_word t i e 0 (omega arith) in
        let q : byte_at t (i + 0) ≡ 119 = spelled_at within_word t i h 0 (omega arith) in
        absurd (omega arith)

-- the rule
rule_read : {t : List ℕ} {i p : ℕ} (w : Wish) → wish_fits w ≡ true → Seg t i p (wish_text w) → is_digit (byte_at t p) ≡ false
    → (has_rule t i ≡ true) × (rule_at t i ≡ record { rule = rule_of w; allowance = allowance_of w; next = p })
rule_read {t} {i} {p} (target v) h a e =
    let s : spelled target_word t i ≡ true = seg_word target_word (seg_first target_word (count_text v) a) in
    let f = seg_count v (leb-true v 4294967295 h) (seg_rest target_word (count_text v) a) e in
    let k = rule_target t i true (sym s) refl in
    (k.0 ∙ f.0, k.1 ∙ ap (λ (x : Field). record { rule = Target x.value; allowance = 0; next = x.next }) f.1)
rule_read {t} {i} {p} (within x cap) h a e =
    let fit = both (ltb x (2 ^ 64)) (cap_fits cap) h in
    let s : spelled within_word t i ≡ true = seg_word within_word (seg_first within_word (bits_text x ++ (tab ∷ cap_text cap)) a) in
    let b : Seg t (i + 7) p (bits_text x ++ (tab ∷ cap_text cap)) = seg_rest within_word (bits_text x ++ (tab ∷ cap_text cap)) a in
    let bits = seg_bits x (ltb-true x (2 ^ 64) fit.0) (seg_first (bits_text x) (tab ∷ cap_text cap) b) in
    let f : bits_at t (i + 7) ≡ record { value = x; next = i + 7 + 16 } = seg_bits_at x (ltb-true x (2 ^ 64) fit.0)
    (seg_first (bits_text x) (tab ∷ cap_text cap) b) in
    let l : i + 7 + length (bits_text x) ≡ i + 7 + 16 = ap (λ (z : ℕ). i + 7 + z) (length-bits x) in
    let c : Seg t (i + 7 + 16) p (tab ∷ cap_text cap) = rw l at (seg_rest (bits_text x) (tab ∷ cap_text cap) b) in
    let q : suc (i + 7 + 16) ≡ i + 7 + 17 = omega arith in
    let d : Seg t (i + 7 + 17) p (cap_text cap) = rw q at (seg_after c) in
    let r = cap_read cap fit.1 d e in
    let good : has_within t (i + 7) ≡ true = sym (has_within_is t (i + 7) tab true true (sym bits.0) (sym (seg_byte c)) (sym r.0)) in
    let g : record { rule = Within (of_bits binary64 x) cap; allowance = x; next = p } ≡ within_at t (i + 7) =
    within_is t (i + 7) (record { value = x; next = i + 7 + 16 }) (of_bits binary64 x) (record { cap = cap; next = p }) (sym f) (sym r.1) refl in
    let k = rule_within t i false true (sym (not_target t i s)) refl (sym s) refl in
    (k.0 ∙ good, k.1 ∙ sym g)

-- the end of the line: what it begins with, and the edition that it says
edition_first : {t : List ℕ} {i j : ℕ} (e : ℕ) → Seg t i j (edition_text e) → is_digit (byte_at t i) ≡ false
edition_first {t} {i} {j} e a = go (eqb e 2) a
  where
    go : (s : Bool) → Seg t i j (pick s second_edition (newline ∷ [])) → is_digit (byte_at t i) ≡ false
    go true b = ap is_digit (seg_byte b)
    go false b = ap is_digit (seg_byte b)

not_second : (t : List ℕ) (i : ℕ) → byte_at t i ≡ newline → spelled second_edition t i ≡ false
not_second t i h = go (spelled second_edition t i) refl
  where
    go : (s : Bool) → spelled second_edition t i ≡ s → s ≡ false
    go false e = refl
    go true e =
        let z : i + 0 ≡ i = omega arith in
        let p : byte_at t i ≡ 9 = rw z at (spelled_at second_edition t i e 0 (omega arith)) in
        absurd (omega arith)

edition_read : {t : List ℕ} {i j : ℕ} (e : ℕ) → 1 ≤ e → e ≤ 2 → Seg t i j (edition_text e)
    → (has_edition t i ≡ true) × (edition_at t i ≡ record { edition = e; next = j })
edition_read {t} {i} {j} e low high a = go (eqb e 2) refl a
  where
    first : (e ≡ 2 → ⊥) → Dec (e < 2) → e ≡ 1
    first h (yes g) = omega arith
    first h (no g) = absurd (h (omega arith))

    go : (s : Bool) → eqb e 2 ≡ s → Seg t i j (pick s second_edition (newline ∷ []))
        → (has_edition t i ≡ true) × (edition_at t i ≡ record { edition = e; next = j })
    go true f b =
        let p : e ≡ 2 = eqb-true e 2 f in
        let k = edition_two t i true (sym (seg_word second_edition b)) refl in
        (k.0, rw (p, b.ends) (sym k.1))
    go false f b =
        let p : e ≡ 1 = first (eqb-false e 2 f) (dec_lt e 2) in
        let k = edition_one t i newline false (sym (not_second t i (seg_byte b))) refl (sym (seg_byte b)) in
        (k.0, rw (p, b.ends) (sym k.1))

-- the sizes that stand at i, and what stands behind them
record SizesRead (t : List ℕ) (i k m n : ℕ) (rest : List ℕ) : Type 0 where
  next : ℕ
  good : has_sizes t i ≡ true
  read : sizes_at t i ≡ record { m = m; n = n; next = next }
  behind : Seg t next k rest

sizes_read : {t : List ℕ} {i k : ℕ} (m n : ℕ) (rest : List ℕ) → m ≤ 32 → n ≤ 64 → Seg t i k (count_text m ++ (tab ∷ (count_text n ++ (tab ∷ rest))))
    → SizesRead t i k m n rest
sizes_read {t} {i} {k} m n rest h g a =
    let j : ℕ = i + length (count_text m) in
    let l : ℕ = suc j + length (count_text n) in
    let b : Seg t j k (tab ∷ (count_text n ++ (tab ∷ rest))) = seg_rest (count_text m) _ a in
    let c : Seg t (suc j) k (count_text n ++ (tab ∷ rest)) = seg_after b in
    let d : Seg t l k (tab ∷ rest) = seg_rest (count_text n) _ c in
    let e = seg_count m (omega arith) (seg_first (count_text m) _ a) (ap is_digit (seg_byte b)) in
    let f = seg_count n (omega arith) (seg_first (count_text n) _ c) (ap is_digit (seg_byte d)) in
    let x : Field = record { value = m; next = j } in
    let y : Field = record { value = n; next = l } in
    let f' : count_at t (j + 1) ≡ y = ap (count_at t) (add-one j) ∙ f.1 in
    let u : has_count t (j + 1) ≡ true = ap (has_count t) (add-one j) ∙ f.0 in
    let z : record { m = m; n = n; next = l + 1 } ≡ sizes_at t i = sizes_is t i x y (sym e.1) (sym f') in
    let w : ((true && (leb m 32 && true)) && (true && (leb n 64 && true))) ≡ has_sizes t i =
    has_sizes_is t i tab tab true true x y (sym e.0) (sym e.1) (sym (seg_byte b)) (sym u) (sym f') (sym (seg_byte d)) in
    record {
      next = suc l;
      good = sym w ∙ rw (le-leb m 32 h, le-leb n 64 g);
      read = sym z ∙ rw (add-one l);
      behind = seg_after d;
    }

-- what the first line of a sheet is read as, where it ends at e
abbrev head_for : Sheet → ℕ → Head
head_for s e =
    record {
      m = s.m;
      n = s.n;
      seed = s.seed;
      edition = s.edition;
      rule = rule_of s.wish;
      allowance = allowance_of s.wish;
      next = e;
    }

pub head_read : {t : List ℕ} {e : ℕ} (s : Sheet) → Fits s → Seg t 0 e (head_text s) → (has_head t ≡ true) × (head_of t ≡ head_for s e)
head_read {t} {e} s fit a =
    let end : List ℕ = wish_text s.wish ++ edition_text s.edition in
    let z : SizesRead t 5 e s.m s.n (bits_text s.seed ++ (tab ∷ end)) =
    sizes_read s.m s.n (bits_text s.seed ++ (tab ∷ end)) fit.columns fit.rows (seg_rest thin_word _ a) in
    let i : ℕ = z.next in
    let bits = seg_bits s.seed fit.seeds (seg_first (bits_text s.seed) (tab ∷ end) z.behind) in
    let f : bits_at t i ≡ record { value = s.seed; next = i + 16 } =
    seg_bits_at s.seed fit.seeds (seg_first (bits_text s.seed) (tab ∷ end) z.behind) in
    let l : i + length (bits_text s.seed) ≡ i + 16 = ap (λ (x : ℕ). i + x) (length-bits s.seed) in
    let b : Seg t (i + 16) e (tab ∷ end) = rw l at (seg_rest (bits_text s.seed) (tab ∷ end) z.behind) in
    let q : suc (i + 16) ≡ i + 17 = omega arith in
    let c : Seg t (i + 17) e end = rw q at (seg_after b) in
    let p : ℕ = i + 17 + length (wish_text s.wish) in
    let d : Seg t p e (edition_text s.edition) = seg_rest (wish_text s.wish) (edition_text s.edition) c in
    let r = rule_read s.wish fit.wishes (seg_first (wish_text s.wish) (edition_text s.edition) c) (edition_first s.edition d) in
    let g = edition_read s.edition fit.editions.0 fit.editions.1 d in
    let x : Sizes = record { m = s.m; n = s.n; next = i } in
    let y : RuleField = record { rule = rule_of s.wish; allowance = allowance_of s.wish; next = p } in (
      sym
          (has_head_is t true true true true true tab x y (sym (seg_word thin_word (seg_first thin_word _ a))) (sym z.good) (sym z.read)
          (sym bits.0) (sym (seg_byte b)) (sym r.0) (sym r.1) (sym g.0)),
      sym
          (head_is t x (record { value = s.seed; next = i + 16 }) y (record { edition = s.edition; next = e }) (sym z.read) (sym f) (sym r.1) (sym g.1)),
    )

pub length_entries : (e : ℕ → ℕ) (k : ℕ) → length (entries_text e k) ≡ 17 * k
unfolding entries_text
length_entries e zero = refl
length_entries e (suc k) = length-append (entries_text e k) _ ∙ omega (arith, length_entries e k, length-bits (e k))

pub length_column : (n w : ℕ) (e : ℕ → ℕ) → length (column_text n w e) ≡ line_long n
unfolding column_text
length_column n w e =
    omega (
      arith,
      length-append (bits_text w) (entries_text e n ++ (newline ∷ [])),
      length-append (entries_text e n) (newline ∷ []),
      length-bits w,
      length_entries e n,
    )

pub length-columns : (n : ℕ) (w : ℕ → ℕ) (e : ℕ → ℕ → ℕ) (k : ℕ) → length (columns_text n w e k) ≡ k * line_long n
unfolding columns_text
length-columns n w e zero = omega arith
length-columns n w e (suc k) =
    length-append (columns_text n w e k) _ ∙ omega (arith, length-columns n w e k, length_column n (w k) (e k))

-- an entry that is read at i
record EntryRead (t : List ℕ) (i x : ℕ) : Type 0 where
  good : is_entry t i ≡ true
  says : number_at 16 t (suc i) 16 ≡ x

entry_read : {t : List ℕ} {i j : ℕ} (x : ℕ) → x < 2 ^ 64 → Seg t i j (tab ∷ bits_text x) → EntryRead t i x
entry_read {t} {i} {j} x h a =
    let b = seg_bits x h (seg_after a) in
    record { good = rw (seg_byte a, b.0); says = b.1 }

entries_read : {t : List ℕ} {i j : ℕ} (e : ℕ → ℕ) (k : ℕ) → ((q : ℕ) → q < k → e q < 2 ^ 64) → Seg t i j (entries_text e k)
    → (q : ℕ) → q < k → EntryRead t (i + 17 * q) (e q)
unfolding entries_text
entries_read {t} {i} {j} e zero h a q l = absurd (omega arith)
entries_read {t} {i} {j} e (suc k) h a q l = go (dec_lt q k)
    (entries_read {j = i + length (entries_text e k)} e k (λ x g. h x (omega arith)) (seg_first (entries_text e k) (tab ∷ bits_text (e k)) a) q)
  where
    go : Dec (q < k) → (q < k → EntryRead t (i + 17 * q) (e q)) → EntryRead t (i + 17 * q) (e q)
    go (yes g) r = r g
    go (no g) r =
        let same : q ≡ k = omega arith in
        let p : i + length (entries_text e k) ≡ i + 17 * k = ap (λ (x : ℕ). i + x) (length_entries e k) in
        rw same (entry_read (e k) (h k (omega arith)) (rw p at (seg_rest (entries_text e k) (tab ∷ bits_text (e k)) a)))

-- a column that is read at i
record ColumnRead (t : List ℕ) (n i w : ℕ) (e : ℕ → ℕ) : Type 0 where
  good : is_column t n i ≡ true
  weight : number_at 16 t (i + 4) 16 ≡ w
  entry : (q : ℕ) → q < n → number_at 16 t (i + 4 + 17 + 17 * q) 16 ≡ e q

all_of : (a b c d : Bool) → a ≡ true → b ≡ true → c ≡ true → d ≡ true → ((a && b) && (c && d)) ≡ true
all_of a b c d p q r s = rw (p, q, r, s)

column_read : {t : List ℕ} {i j : ℕ} (n w : ℕ) (e : ℕ → ℕ) → w < 2 ^ 64 → ((q : ℕ) → q < n → e q < 2 ^ 64) → Seg t i j (column_text n w e)
    → ColumnRead t n i w e
unfolding column_text is_column
column_read {t} {i} {j} n w e h g a =
    let b : Seg t (i + 4) j (bits_text w ++ (entries_text e n ++ (newline ∷ []))) = seg_rest col_word _ a in
    let weight = seg_bits w h (seg_first (bits_text w) _ b) in
    let l : i + 4 + length (bits_text w) ≡ i + 20 = omega (arith, length-bits w) in
    let c : Seg t (i + 20) j (entries_text e n ++ (newline ∷ [])) = rw l at (seg_rest (bits_text w) _ b) in
    let entry : (q : ℕ) → q < n → EntryRead t (i + 20 + 17 * q) (e q) = entries_read e n g (seg_first (entries_text e n) (newline ∷ []) c) in
    let k : i + 20 + length (entries_text e n) ≡ i + 20 + 17 * n = ap (λ (x : ℕ). i + 20 + x) (length_entries e n) in
    let d : Seg t (i + 20 + 17 * n) j (newline ∷ []) = rw k at (seg_rest (entries_text e n) (newline ∷ []) c) in
    let place : (q : ℕ) → i + 4 + 17 + 17 * q ≡ suc (i + 20 + 17 * q) = λ q. omega arith in
    record {
      good =
          all_of (spelled col_word t i) (is_bits t (i + 4)) (all_to (λ x. is_entry t (i + 20 + 17 * x)) n) (eqb (byte_at t (i + 20 + 17 * n)) newline)
          (seg_word col_word (seg_first col_word _ a)) weight.0
          (every_holds (λ x. is_entry t (i + 20 + 17 * x)) n (λ q m. (entry q m).good))
          (ap (λ (x : ℕ). eqb x newline) (seg_byte d));
      weight = weight.1;
      entry = λ q m. ap (λ (x : ℕ). number_at 16 t x 16) (place q) ∙ (entry q m).says;
    }

-- the line of a column is one
pub column_good : (n w : ℕ) (e : ℕ → ℕ) → w < 2 ^ 64 → ((q : ℕ) → q < n → e q < 2 ^ 64) → is_column (column_text n w e) n 0 ≡ true
column_good n w e h g = (column_read n w e h g (whole_seg (column_text n w e))).good

-- each column's line
columns_stand : {t : List ℕ} {i j : ℕ} (n : ℕ) (w : ℕ → ℕ) (e : ℕ → ℕ → ℕ) (k : ℕ) → Seg t i j (columns_text n w e k) → (q : ℕ) → q < k
    → Seg t (i + q * line_long n) (i + suc q * line_long n) (column_text n (w q) (e q))
unfolding columns_text
columns_stand {t} {i} {j} n w e zero a q l = absurd (omega arith)
columns_stand {t} {i} {j} n w e (suc k) a q l = go (dec_lt q k)
    (columns_stand {j = i + length (columns_text n w e k)} n w e k (seg_first (columns_text n w e k) line a) q)
  where
    line : List ℕ
    line = column_text n (w k) (e k)

    go : Dec (q < k) → (q < k → Seg t (i + q * line_long n) (i + suc q * line_long n) (column_text n (w q) (e q)))
        → Seg t (i + q * line_long n) (i + suc q * line_long n) (column_text n (w q) (e q))
    go (yes g) r = r g
    go (no g) r =
        let same : q ≡ k = omega arith in
        let p : i + length (columns_text n w e k) ≡ i + k * line_long n = ap (λ (x : ℕ). i + x) (length-columns n w e k) in
        let b : Seg t (i + k * line_long n) j line = rw p at (seg_rest (columns_text n w e k) line a) in
        let f : j ≡ i + suc k * line_long n = omega (arith, b.ends, length_column n (w k) (e k)) in
        rw same (rw f at b)

-- the column and the row of an entry of the matrix
place_of : (m n k : ℕ) → k < m * n → (k / n < m) × (k % n < n)
place_of m n k h = go (dec_lt 0 n)
  where
    go : Dec (0 < n) → (k / n < m) × (k % n < n)
    go (yes p) = ((div-lt_iff_lt-mul p).1 h, mod-lt k p)
    go (no p) =
        let z : n ≡ 0 = omega arith in
        let q : m * n ≡ m * 0 = ap (λ (x : ℕ). m * x) z in
        absurd (omega arith)

-- no line is wrong where the first is read and each column is
no_line_wrong : (t : List ℕ) (h : Head) → head_of t ≡ h → has_head t ≡ true → ((j : ℕ) → j < h.m → is_column t h.n (h.next + j * line_long h.n) ≡ true)
    → length t ≡ end_of h
    → wrong_line t ≡ 0
no_line_wrong t h e f g l =
    right-back t (record { first = f; columns = rw e g; long = l ∙ ap end_of (sym e) })

says : (t : List ℕ) (s : Sheet) → Fits s → t ≡ sheet_text s → Says t s
says t s fit e =
    let whole : Seg t 0 (length t) (sheet_text s) = subst (λ (w : List ℕ). Seg t 0 (length t) w) e (whole_seg t) in
    let columns : List ℕ = columns_text s.n s.weight s.entry s.m in
    let start : ℕ = 0 + length (head_text s) in
    let h : Head = head_for s start in
    let first = head_read s fit (seg_first (head_text s) columns whole) in
    let head : head_of t ≡ h = first.1 in
    let lines : Seg t start (length t) columns = seg_rest (head_text s) columns whole in
    let column : (j : ℕ) → j < s.m → ColumnRead t s.n (start + j * line_long s.n) (s.weight j) (s.entry j) =
    λ j g. column_read s.n (s.weight j) (s.entry j) (fit.weights j g) (λ i l. fit.entries j i g l)
    (columns_stand s.n s.weight s.entry s.m lines j g) in
    record {
      fits = fit;
      written = e;
      right = no_line_wrong t h head first.0 (λ j g. (column j g).good)
          (lines.ends ∙ ap (λ (x : ℕ). start + x) (length-columns s.n s.weight s.entry s.m));
      columns = ap (λ (x : Head). x.m) head;
      rows = ap (λ (x : Head). x.n) head;
      seed = ap (λ (x : Head). x.seed) head;
      edition = ap (λ (x : Head). x.edition) head;
      rule = ap (λ (x : Head). x.rule) head;
      allowance = ap (λ (x : Head). x.allowance) head;
      weight_bits_is = ap (weight_bits t) head ∙ tab_cong _ _ s.m (λ j g. (column j g).weight);
      matrix_bits_is = ap (matrix_bits t) head
          ∙ tab_cong _ _ (s.m * s.n) (λ k g. let p = place_of s.m s.n k g in (column (k / s.n) p.0).entry (k % s.n) p.1);
      weights = ap (weights_of t) head ∙ tab_cong _ _ s.m (λ j g. ap (of_bits binary64) (column j g).weight);
      matrix =
          ap (matrix_of t) head
          ∙ tab_cong _ _ (s.m * s.n) (λ k g. let p = place_of s.m s.n k g in ap (of_bits binary64) ((column (k / s.n) p.0).entry (k % s.n) p.1));
    }

-- What is of the form is taken: the text of a sheet that fits has no wrong line, and what is read from it is what the sheet says.
pub of_the_form_is_taken : (s : Sheet) → Fits s → Says (sheet_text s) s
of_the_form_is_taken s fit = says (sheet_text s) s fit refl
