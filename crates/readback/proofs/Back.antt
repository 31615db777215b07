-- What is written is read back with the same bits, and a sheet that the reader takes is written again exactly as it was.
use Rattle.std.specs.Prelude.{None, Some}
use borrow.Author.Tests.{eqb-true, eq-eqb, le-leb, lt-ltb, ltb-false}
use Prim.Native.Nat.{ℕ, ◌+◌, ◌*◌, ◌/◌, ◌%◌, ◌^◌, ◌≤◌, ◌<◌}
use mathlib.Core.Path.{◌≡◌, refl, sym, ap, ◌∙◌, subst}
use mathlib.Core.Bool.{Bool, true, false, not, ◌&&◌}
use mathlib.Core.List.{List, ◌++◌}
use native.Mathlib.Nat.{mul-add-div_right, mul-add-mod_self_right, mod-eq_of_lt, div-eq_of_lt, mul-le-mul_right}
use native.Mathlib.Omega.{arith}
use lib.Dec.{eqb, ltb}
use lib.ListN.{length, get_or, take, drop}
use lib.Seq.{take_at}
use Rattle.seq.specs.Choice.{pick}
use Rattle.seq.proofs.Filling.{get_or-tab}
use Rattle.fields.specs.Fields.{bits_at}
use Rattle.head.specs.FirstLine.{head_of}
use Rattle.head.specs.declared.Head.{Head}
use Rattle.form.specs.Form.{wrong_line}
use Rattle.form.specs.Reading.{weight_place, entry_place, weight_bits, matrix_bits}
use Rattle.form.specs.Sheets.{Wish, target, within, Sheet, sheet_text, columns_text, wish_fits, Fits, rule_of, allowance_of, sheet_of, Says}
use Rattle.form.proofs.OfForm.{of_the_form_is_taken}
use Rattle.form.proofs.Taken.{taken_is_of_the_form}
use Rattle.opening.specs.Wishes.{wish_for}
use Rattle.writing.specs.Writing.{sheet_for, write_fault, WroteSheet}
use Rattle.readback.specs.ReadingBack.{rule_number, limit_of}
use Rattle.writing.specs.declared.Written.{Written}
use Rattle.writing.proofs.Faults.{Accepted, accepted}
use Rattle.body.proofs.Loops.{columns_same}

-- every number that is handed over has 64 bits
pub record Words (matrix weights : List ℕ) (seed allowance : ℕ) : Type 0 where
  pub seeds : seed < 2 ^ 64
  pub allowances : allowance < 2 ^ 64
  pub weighed : (j : ℕ) → get_or weights j 0 < 2 ^ 64
  pub entries : (k : ℕ) → get_or matrix k 0 < 2 ^ 64

-- a rule that is not too much fits its fields
wish_fits_lem : (rule allowance limit : ℕ) → allowance < 2 ^ 64 → (not (eqb rule 1) && ltb 4294967295 limit) ≡ false
    → wish_fits (wish_for rule allowance limit) ≡ true
wish_fits_lem rule allowance limit h g = go (eqb rule 0) (eqb rule 1) refl refl g
  where
    go : (s u : Bool) → eqb rule 0 ≡ s → eqb rule 1 ≡ u → (not u && ltb 4294967295 limit) ≡ false
        → wish_fits (pick s (target limit) (within allowance (pick u None (Some limit)))) ≡ true
    go true true e f l = absurd (omega (arith, eqb-true rule 0 e, eqb-true rule 1 f))
    go true false e f l = le-leb limit 4294967295 (ltb-false 4294967295 limit l)
    go false true e f l = rw (lt-ltb allowance (2 ^ 64) h)
    go false false e f l = rw (lt-ltb allowance (2 ^ 64) h, le-leb limit 4294967295 (ltb-false 4294967295 limit l))

known_edition : (e : ℕ) → (not (eqb e 1) && not (eqb e 2)) ≡ false → (1 ≤ e) × (e ≤ 2)
known_edition e h = go (eqb e 1) (eqb e 2) refl refl h
  where
    go : (s u : Bool) → eqb e 1 ≡ s → eqb e 2 ≡ u → (not s && not u) ≡ false → (1 ≤ e) × (e ≤ 2)
    go true u p q l = let f = eqb-true e 1 p in (omega arith, omega arith)
    go false true p q l = let f = eqb-true e 2 q in (omega arith, omega arith)
    go false false p q l =
        let n : ◌≡◌ {A = ℕ} 0 1 = cc in
        absurd (omega arith)

module _ (matrix : List ℕ) (m n : ℕ) (weights : List ℕ) (seed edition rule allowance limit : ℕ) where
  accepted_fits : Accepted (length matrix) m n (length weights) edition rule limit → Words matrix weights seed allowance
      → Fits (sheet_for matrix m n weights seed edition rule allowance limit)
  accepted_fits a w =
      record {
        columns = a.columns;
        rows = a.rows;
        seeds = w.seeds;
        editions = known_edition edition a.editions;
        wishes = wish_fits_lem rule allowance limit w.allowances a.limits;
        weights = λ j l. w.weighed j;
        entries = λ j i l k. w.entries (j * n + i);
      }

  -- What is written is read back: the text is of the form, and what is read from it, bit for bit, is what was handed over.
  pub written_is_read_back : (text : List ℕ) (r : Written) (text' : List ℕ) → Words matrix weights seed allowance
      → WroteSheet (write_fault (length matrix) m n (length weights) edition rule limit)
      (sheet_for matrix m n weights seed edition rule allowance limit) text r text'
      → r.number ≡ 0 → Says (take r.length text') (sheet_for matrix m n weights seed edition rule allowance limit)
  written_is_read_back text r text' w e z =
      subst (λ (t : List ℕ). Says t s) (sym front)
      (of_the_form_is_taken s (accepted_fits (accepted (length matrix) m n (length weights) edition rule limit fault) w))
    where
      s : Sheet
      s = sheet_for matrix m n weights seed edition rule allowance limit

      none : (f : ℕ) (b : Bool) → eqb f 0 ≡ b → pick b (pick (ltb (length text) (length (sheet_text s))) 16 0) f ≡ 0 → f ≡ 0
      none f true p q = eqb-true f 0 p
      none f false p q = q

      fault : write_fault (length matrix) m n (length weights) edition rule limit ≡ 0
      fault = none (write_fault (length matrix) m n (length weights) edition rule limit) _ refl (sym e.number ∙ z)

      test : eqb r.number 0 ≡ true
      test = eq-eqb r.number 0 z

      long : r.length ≡ length (sheet_text s)
      long = e.long ∙ ap (λ (b : Bool). pick b (length (sheet_text s)) 0) test

      front : take r.length text' ≡ sheet_text s
      front =
          ap (take r.length) (e.writes ∙ ap (λ (b : Bool). pick b (sheet_text s ++ drop (length (sheet_text s)) text) text) test)
          ∙ take_at (sheet_text s) (drop (length (sheet_text s)) text) r.length (sym long)

-- the wish of the numbers that a rule is read as
same_wish : (w : Wish) → wish_for (rule_number (rule_of w)) (allowance_of w) (limit_of (rule_of w)) ≡ w
same_wish (target t) = refl
same_wish (within a None) = refl
same_wish (within a (Some c)) = refl

-- the sheet of what is read from a text
abbrev pub read_sheet : List ℕ → Sheet
read_sheet text =
    let h : Head = head_of text in
    sheet_for (matrix_bits text h) h.m h.n (weight_bits text h) h.seed h.edition (rule_number h.rule) h.allowance (limit_of h.rule)

-- where entry i of column j stands
entry_place_lem : (start n j i : ℕ) → i < n → entry_place start n (j * n + i) ≡ weight_place start n j + 17 + 17 * i
entry_place_lem start n j i h =
    let p : 0 < n = omega arith in
    let q : (j * n + i) / n ≡ j = mul-add-div_right p j i ∙ omega (arith, div-eq_of_lt h) in
    let r : (j * n + i) % n ≡ i = mul-add-mod_self_right j n i ∙ mod-eq_of_lt h in
    rw (q, r)

-- A sheet that the reader takes is written again exactly as it was.
pub taken_is_written_again : (text : List ℕ) → wrong_line text ≡ 0 → sheet_text (read_sheet text) ≡ text
taken_is_written_again text z =
    let t = taken_is_of_the_form text z in
    let h : Head = head_of text in
    let wish : wish_for (rule_number h.rule) h.allowance (limit_of h.rule) ≡ (sheet_of text).wish = rw (t.rule, t.allowance)
    (same_wish (sheet_of text).wish) in
    let inside : (j i : ℕ) → j < h.m → i < h.n → j * h.n + i < h.m * h.n = λ j i l k. omega (arith, mul-le-mul_right h.n l) in
    let columns : columns_text h.n (read_sheet text).weight (read_sheet text).entry h.m ≡ columns_text h.n
    (sheet_of text).weight (sheet_of text).entry h.m =
    columns_same h.n (read_sheet text).weight (sheet_of text).weight (read_sheet text).entry (sheet_of text).entry h.m
    (λ j l. get_or-tab (λ k. (bits_at text (weight_place h.next h.n k)).value) h.m j 0 l)
    (λ j i l k. get_or-tab (λ q. (bits_at text (entry_place h.next h.n q)).value) (h.m * h.n) (j * h.n + i) 0 (inside j i l k)
    ∙ ap (λ (q : ℕ). (bits_at text q).value) (entry_place_lem h.next h.n j i k)) in
    rw (wish, columns) (sym t.written)
