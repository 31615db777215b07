-- What is taken is of the form: a text of which no line is wrong is the text of the sheet that it says. Field by field each stands where it is read, and
-- what stands in a row is joined.
use Rattle.std.specs.Prelude.{None, Some}
use borrow.Author.Tests.{eqb-true, le-leb, lt-ltb}
use Prim.Native.Nat.{ℕ, zero, suc, ◌+◌, ◌*◌, ◌^◌, ◌<◌, ◌≤◌}
use mathlib.Core.Path.{◌≡◌, refl, ap}
use mathlib.Core.Bool.{Bool, true, false, ◌&&◌, false≢true}
use mathlib.Core.List.{List, [], ◌∷◌, ◌++◌, append_assoc}
use native.Mathlib.Omega.{arith}
use lib.Dec.{eqb}
use Rattle.seq.specs.Choice.{pick}
use Rattle.seq.specs.Keep.{all_to}
use Rattle.fields.specs.Bytes.{tab, newline, byte_at, spelled}
use Rattle.fields.specs.Digits.{number_at}
use Rattle.fields.specs.Fields.{is_bits, bits_at, has_count, count_at}
use Rattle.fields.specs.Texts.{bits_text, count_text}
use Rattle.seq.proofs.Choosing.{both}
use Rattle.seq.proofs.Every.{every_at}
use Rattle.fields.proofs.BitsBack.{bits_below}
use Rattle.head.specs.Words.{thin_word, target_word, within_word, second_edition, dash}
use Rattle.head.specs.FirstLine.{has_cap, cap_at, target_at, has_within, within_at, no_rule, has_rule, rule_at}
use Rattle.head.specs.FirstLine.{has_sizes, sizes_at, has_edition, edition_at, has_head, head_of}
use Rattle.head.specs.declared.CapField.{CapField}
use Rattle.head.specs.declared.RuleField.{RuleField}
use Rattle.head.specs.declared.EditionField.{EditionField}
use Rattle.head.specs.declared.Head.{Head}
use Rattle.head.proofs.Good.{good-sizes, good_head}
use Rattle.form.specs.Form.{line_long, is_entry, col_word, is_column, end_of, wrong_line}
use Rattle.form.specs.Reading.{weight_place}
use Rattle.form.specs.Sheets.{Wish, target, within, Sheet, cap_text, wish_text, edition_text, head_text, entries_text, column_text, columns_text, sheet_text}
use Rattle.form.specs.Sheets.{cap_fits, wish_fits, Fits, rule_of, allowance_of, wish_at, sheet_of, Says}
use Rattle.form.proofs.Segments.{Seg, seg_join, seg_whole, byte_seg, word_seg, bits_seg, count_seg, count_most}
use Rattle.form.proofs.Verdicts.{sized}
use Rattle.form.proofs.Lines.{right}

-- a byte that is tested for
tested : (t : List ℕ) (i b : ℕ) → eqb (byte_at t i) b ≡ true → 0 < b → Seg t i (suc i) (b ∷ [])
tested t i b e h = byte_seg t i b (eqb-true (byte_at t i) b e) h

-- the same, with its end written otherwise
tested_to : (t : List ℕ) (i j b : ℕ) → j ≡ suc i → eqb (byte_at t i) b ≡ true → 0 < b → Seg t i j (b ∷ [])
tested_to t i j b p e h = rw p (tested t i b e h)

record CapSaid (t : List ℕ) (i : ℕ) (k : CapField) : Type 0 where
  stands : Seg t i k.next (cap_text k.cap)
  fits : cap_fits k.cap ≡ true

cap_said : (t : List ℕ) (i : ℕ) → has_cap t i ≡ true → CapSaid t i (cap_at t i)
unfolding has_cap cap_at
cap_said t i h = go (eqb (byte_at t i) dash) refl h
  where
    count : CapField
    count = record { cap = Some (count_at t i).value; next = (count_at t i).next }

    go : (s : Bool) → eqb (byte_at t i) dash ≡ s → pick s true (has_count t i) ≡ true
        → CapSaid t i (pick s (record { cap = None; next = suc i }) count)
    go true e g = record { stands = tested t i dash e (omega arith); fits = refl }
    go false e g = record { stands = count_seg t i g; fits = le-leb (count_at t i).value 4294967295 (count_most t i g) }

-- a rule that is read, and the wish that it is
record RuleSaid (t : List ℕ) (i : ℕ) (r : RuleField) (w : Wish) : Type 0 where
  stands : Seg t i r.next (wish_text w)
  fits : wish_fits w ≡ true
  rule : r.rule ≡ rule_of w
  allowance : r.allowance ≡ allowance_of w

target_said : (t : List ℕ) (i : ℕ) → spelled target_word t i ≡ true → (has_count t (i + 7)) ≡ true
    → RuleSaid t i (target_at t (i + 7)) (target (count_at t (i + 7)).value)
unfolding all_to
target_said t i e h =
    record {
      stands = seg_join (word_seg target_word t i (omega arith) refl e) (count_seg t (i + 7) h);
      fits = le-leb (count_at t (i + 7)).value 4294967295 (count_most t (i + 7) h);
      rule = refl;
      allowance = refl;
    }

within_said : (t : List ℕ) (i : ℕ) → spelled within_word t i ≡ true → (has_within t (i + 7)) ≡ true
    → RuleSaid t i (within_at t (i + 7)) (within (bits_at t (i + 7)).value (cap_at t (i + 7 + 17)).cap)
unfolding all_to has_within within_at
within_said t i e h =
    let p = both (is_bits t (i + 7)) (eqb (byte_at t (i + 7 + 16)) tab && (has_cap t (i + 7 + 17))) h in
    let q = both (eqb (byte_at t (i + 7 + 16)) tab) (has_cap t (i + 7 + 17)) p.1 in
    let c : CapSaid t (i + 7 + 17) (cap_at t (i + 7 + 17)) = cap_said t (i + 7 + 17) q.1 in
    record {
      stands =
          seg_join (word_seg within_word t i (omega arith) refl e)
          (seg_join (bits_seg t (i + 7) p.0) (seg_join (tested_to t (i + 7 + 16) (i + 7 + 17) tab (omega arith) q.0 (omega arith)) c.stands));
      fits = rw (lt-ltb (bits_at t (i + 7)).value (2 ^ 64) (bits_below t (i + 7)), c.fits);
      rule = refl;
      allowance = refl;
    }

rule_said : (t : List ℕ) (i : ℕ) → has_rule t i ≡ true → RuleSaid t i (rule_at t i) (wish_at t i)
unfolding has_rule rule_at
rule_said t i h = go (spelled target_word t i) (spelled within_word t i) refl refl h
  where
    go : (s u : Bool) → spelled target_word t i ≡ s → spelled within_word t i ≡ u
        → pick s (has_count t (i + 7)) (pick u (has_within t (i + 7)) false) ≡ true
        → RuleSaid t i (pick s (target_at t (i + 7)) (pick u (within_at t (i + 7)) no_rule))
        (pick s (target (count_at t (i + 7)).value) (within (bits_at t (i + 7)).value (cap_at t (i + 7 + 17)).cap))
    go true u e f g = target_said t i e g
    go false true e f g = within_said t i f g
    go false false e f g = absurd (false≢true g)

-- the sizes, each with the tab behind it
sizes_said : (t : List ℕ) (i : ℕ) → has_sizes t i ≡ true
    → Seg t i (sizes_at t i).next (count_text (sizes_at t i).m ++ (tab ∷ (count_text (sizes_at t i).n ++ (tab ∷ []))))
unfolding has_sizes sizes_at
sizes_said t i h =
    let g = good-sizes t i h in
    let j : ℕ = suc (count_at t i).next in
    seg_join (count_seg t i g.first)
    (seg_join (tested t (count_at t i).next tab g.parted (omega arith))
    (seg_join (count_seg t j g.second) (tested t (count_at t j).next tab g.closed (omega arith))))

-- the end of the line, and the edition that it says
record EditionSaid (t : List ℕ) (i : ℕ) (e : EditionField) : Type 0 where
  stands : Seg t i e.next (edition_text e.edition)
  fits : (1 ≤ e.edition) × (e.edition ≤ 2)

edition_said : (t : List ℕ) (i : ℕ) → has_edition t i ≡ true → EditionSaid t i (edition_at t i)
unfolding has_edition edition_at all_to
edition_said t i h = go (spelled second_edition t i) refl h
  where
    second : EditionField
    second = record { edition = 2; next = i + 3 }

    first : EditionField
    first = record { edition = 1; next = suc i }

    go : (s : Bool) → spelled second_edition t i ≡ s → pick s true (eqb (byte_at t i) newline) ≡ true → EditionSaid t i (pick s second first)
    go true e g = record { stands = word_seg second_edition t i (omega arith) refl e; fits = (omega arith, omega arith) }
    go false e g = record { stands = tested t i newline g (omega arith); fits = (omega arith, omega arith) }

-- the first line, and what it says
pub record HeadSaid (t : List ℕ) (h : Head) (s : Sheet) : Type 0 where
  pub stands : Seg t 0 h.next (head_text s)
  pub wishes : wish_fits s.wish ≡ true
  pub editions : (1 ≤ h.edition) × (h.edition ≤ 2)
  pub rule : h.rule ≡ rule_of s.wish
  pub allowance : h.allowance ≡ allowance_of s.wish

pub head_said : (t : List ℕ) → has_head t ≡ true → HeadSaid t (head_of t) (sheet_of t)
unfolding has_head head_of all_to
head_said t h =
    let g = good_head t h in
    let i : ℕ = (sizes_at t 5).next in
    let r : RuleSaid t (i + 17) (rule_at t (i + 17)) (wish_at t (i + 17)) = rule_said t (i + 17) g.rule in
    let e : EditionSaid t (rule_at t (i + 17)).next (edition_at t (rule_at t (i + 17)).next) = edition_said t (rule_at t (i + 17)).next g.closed in
    let all =
    seg_join (word_seg thin_word t 0 (omega arith) refl g.opened)
    (seg_join (sizes_said t 5 g.sizes)
    (seg_join (bits_seg t i g.seed)
    (seg_join (tested_to t (i + 16) (i + 17) tab (omega arith) g.parted (omega arith))
    (seg_join r.stands e.stands)))) in
    record { stands = simp append_assoc at all; wishes = r.fits; editions = e.fits; rule = r.rule; allowance = r.allowance }

-- k entries from i, where each is one
entries_said : (t : List ℕ) (i : ℕ) (e : ℕ → ℕ) (k : ℕ) → ((q : ℕ) → q < k → is_entry t (i + 17 * q) ≡ true)
    → ((q : ℕ) → e q ≡ number_at 16 t (suc (i + 17 * q)) 16) → Seg t i (i + 17 * k) (entries_text e k)
unfolding entries_text
entries_said t i e zero h g = record { ends = omega arith; is = refl }
entries_said t i e (suc k) h g =
    let p = both (eqb (byte_at t (i + 17 * k)) tab) (is_bits t (suc (i + 17 * k))) (h k (omega arith)) in
    let last : i + 17 * suc k ≡ suc (i + 17 * k) + 16 = omega arith in
    let bits : Seg t (suc (i + 17 * k)) (i + 17 * suc k) (bits_text (e k)) =
    rw (last, g k) (bits_seg t (suc (i + 17 * k)) p.1) in
    seg_join (entries_said t i e k (λ q l. h q (omega arith)) g) (seg_join (tested t (i + 17 * k) tab p.0 (omega arith)) bits)

-- the line of a column
pub column_said : (t : List ℕ) (n i : ℕ) → is_column t n i ≡ true
    → Seg t i (i + line_long n) (column_text n (number_at 16 t (i + 4) 16) (λ q. number_at 16 t (i + 4 + 17 + 17 * q) 16))
unfolding is_column column_text all_to
column_said t n i h =
    let e = both (spelled col_word t i && is_bits t (i + 4)) (all_to (λ k. is_entry t (i + 20 + 17 * k)) n && eqb (byte_at t (i + 20 + 17 * n)) newline) h in
    let a = both (spelled col_word t i) (is_bits t (i + 4)) e.0 in
    let b = both (all_to (λ k. is_entry t (i + 20 + 17 * k)) n) (eqb (byte_at t (i + 20 + 17 * n)) newline) e.1 in
    let place : (q : ℕ) → i + 4 + 17 + 17 * q ≡ suc (i + 20 + 17 * q) = λ q. omega arith in
    let p : i + 4 + 16 ≡ i + 20 = omega arith in
    let weight : Seg t (i + 4) (i + 20) (bits_text (number_at 16 t (i + 4) 16)) = rw (← p) (bits_seg t (i + 4) a.1) in
    seg_join (word_seg col_word t i (omega arith) refl a.0)
    (seg_join weight
    (seg_join
    (entries_said t (i + 20) (λ q. number_at 16 t (i + 4 + 17 + 17 * q) 16) n (λ q l. every_at (λ k. is_entry t (i + 20 + 17 * k)) n q b.0 l)
    (λ q. ap (λ (x : ℕ). number_at 16 t x 16) (place q)))
    (tested_to t (i + 20 + 17 * n) (i + line_long n) newline (omega arith) b.1 (omega arith))))

-- the lines of the first k columns
columns_said : (t : List ℕ) (k : ℕ) → ((j : ℕ) → j < k → is_column t (head_of t).n ((head_of t).next + j * line_long (head_of t).n) ≡ true)
    → Seg t (head_of t).next ((head_of t).next + k * line_long (head_of t).n) (columns_text (head_of t).n (sheet_of t).weight (sheet_of t).entry k)
unfolding columns_text
columns_said t zero h = record { ends = omega arith; is = refl }
columns_said t (suc k) h =
    let p : (head_of t).next + suc k * line_long (head_of t).n ≡ (head_of t).next + k * line_long (head_of t).n + line_long (head_of t).n = omega arith in
    seg_join (columns_said t k (λ j g. h j (omega arith)))
    (rw p (column_said t (head_of t).n ((head_of t).next + k * line_long (head_of t).n) (h k (omega arith))))

-- the sheet that a text says fits its fields
said_fits : (t : List ℕ) → has_head t ≡ true → HeadSaid t (head_of t) (sheet_of t) → (head_of t).seed < 2 ^ 64 → Fits (sheet_of t)
said_fits t h a g =
    let z = sized t (head_of t) refl h in
    record {
      columns = z.columns;
      rows = z.rows;
      seeds = g;
      editions = a.editions;
      wishes = a.wishes;
      weights = λ j l. bits_below t (weight_place (head_of t).next (head_of t).n j);
      entries = λ j i l m. bits_below t (weight_place (head_of t).next (head_of t).n j + 17 + 17 * i);
    }

seed_below : (t : List ℕ) → (head_of t).seed < 2 ^ 64
unfolding head_of
seed_below t = bits_below t (sizes_at t 5).next

pub head_fits : (t : List ℕ) → has_head t ≡ true → Fits (sheet_of t)
head_fits t h = said_fits t h (head_said t h) (seed_below t)

-- What is taken is of the form: the text is that of the sheet that it says, and what is read is what the sheet says.
pub taken_is_of_the_form : (text : List ℕ) → wrong_line text ≡ 0 → Says text (sheet_of text)
taken_is_of_the_form text h =
    let r = right text h in
    let a = head_said text r.first in
    let all : Seg text 0 (end_of (head_of text)) (sheet_text (sheet_of text)) = seg_join a.stands (columns_said text (head_of text).m r.columns) in
    record {
      fits = head_fits text r.first;
      written = seg_whole text (sheet_text (sheet_of text)) (end_of (head_of text)) all r.long;
      right = h;
      columns = refl;
      rows = refl;
      seed = refl;
      edition = refl;
      rule = a.rule;
      allowance = a.allowance;
      weight_bits_is = refl;
      matrix_bits_is = refl;
      weights = refl;
      matrix = refl;
    }
