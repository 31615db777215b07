-- A list that stands in a text from one place to another: how two in a row are joined and parted, and where words, bits, counts and single bytes stand.
use borrow.Author.Tests.{ltb-true}
use Prim.Native.Nat.{ℕ, suc, ◌+◌, ◌^◌, ◌≤◌, ◌<◌}
use mathlib.Core.Path.{◌≡◌, refl, sym, ap, ◌∙◌}
use mathlib.Core.Bool.{true, false}
use mathlib.Core.List.{List, [], ◌∷◌, ◌++◌}
use native.Mathlib.Omega.{arith}
use lib.Dec.{ltb}
use lib.ListN.{length, get_or, take, drop, length-append}
use lib.Seq.{take_all, take-take, take-append_seam, drop-append_seam, drop-cons}
use Rattle.seq.specs.Lists.{part}
use Rattle.seq.proofs.Parts.{part-add, get_d_part}
use Rattle.seq.specs.Keep.{all_to}
use Rattle.fields.specs.Bytes.{byte_at, spelled}
use Rattle.fields.specs.Digits.{is_digit, number_at}
use Rattle.fields.specs.Fields.{is_bits, bits_at, has_count, count_at, width_at}
use Rattle.fields.specs.Texts.{bits_text, count_text, width_of}
use Rattle.fields.specs.declared.Field.{Field}
use Rattle.fields.proofs.Values.{Says, says_digit}
use Rattle.seq.proofs.Every.{every_at}
use Rattle.fields.proofs.Widths.{length-bits, length-count, width_least}
use Rattle.fields.proofs.Numerals.{inside, digits_say}
use Rattle.fields.proofs.BitsBack.{bits_text_lem, text_bits}
use Rattle.fields.proofs.CountsBack.{count_text_lem, text_count}
use Rattle.fields.proofs.Words.{spelled-word, part-spelled}

-- w stands in t from i to j
pub record Seg (t : List ℕ) (i j : ℕ) (w : List ℕ) : Type 0 where
  pub ends : j ≡ i + length w
  pub is : part i (length w) t ≡ w

pub seg_join : {t u v : List ℕ} {i j k : ℕ} → Seg t i j u → Seg t j k v → Seg t i k (u ++ v)
seg_join {t} {u} {v} {i} {j} {k} a b =
    let q : part (i + length u) (length v) t ≡ v = ap (λ (x : ℕ). part x (length v) t) (sym a.ends) ∙ b.is in
    record {
      ends = omega (arith, a.ends, b.ends, length-append u v);
      is = ap (λ (x : ℕ). part i x t) (length-append u v) ∙ part-add i (length u) (length v) t ∙ rw (a.is, q);
    }

pub seg_first : {t : List ℕ} {i k : ℕ} (u v : List ℕ) → Seg t i k (u ++ v) → Seg t i (i + length u) u
seg_first {t} {i} {k} u v a =
    record {
      ends = refl;
      is = sym (take-take (length u) (length (u ++ v)) (drop i t) (omega (arith, length-append u v))) ∙ ap (take (length u)) a.is ∙ take-append_seam u v;
    }

pub seg_rest : {t : List ℕ} {i k : ℕ} (u v : List ℕ) → Seg t i k (u ++ v) → Seg t (i + length u) k v
seg_rest {t} {i} {k} u v a =
    let x : List ℕ = part (i + length u) (length v) t in
    let p : u ++ v ≡ u ++ x =
    sym a.is ∙ ap (λ (z : ℕ). part i z t) (length-append u v) ∙ part-add i (length u) (length v) t
    ∙ ap (λ (l : List ℕ). l ++ x) (seg_first u v a).is in
    record {
      ends = omega (arith, a.ends, length-append u v);
      is = sym (drop-append_seam u x) ∙ sym (ap (drop (length u)) p) ∙ drop-append_seam u v;
    }

-- the whole text
pub seg_whole : (t w : List ℕ) (e : ℕ) → Seg t 0 e w → length t ≡ e → t ≡ w
seg_whole t w e a h = sym (take_all (length w) t (omega (arith, a.ends))) ∙ a.is

pub whole_seg : (t : List ℕ) → Seg t 0 (length t) t
whole_seg t = record { ends = omega arith; is = take_all (length t) t (omega arith) }

-- what follows a byte
pub seg_after : {t w : List ℕ} {i j b : ℕ} → Seg t i j (b ∷ w) → Seg t (suc i) j w
seg_after {t} {w} {i} {j} {b} a =
    let p : suc i ≡ i + 1 = omega arith in
    rw p (seg_rest (b ∷ []) w a)

-- one byte, which is not 0
pub byte_seg : (t : List ℕ) (i b : ℕ) → byte_at t i ≡ b → 0 < b → Seg t i (suc i) (b ∷ [])
byte_seg t i b e h =
    let l : i < length t = inside t i (omega arith) in
    record { ends = omega arith; is = rw (drop-cons t i 0 l, e) }

pub seg_byte : {t w : List ℕ} {i j b : ℕ} → Seg t i j (b ∷ w) → byte_at t i ≡ b
seg_byte {t} {w} {i} {j} {b} a =
    let p : i + 0 ≡ i = omega arith in
    ap (byte_at t) (sym p) ∙ sym (get_d_part i (suc (length w)) 0 t 0 (omega arith)) ∙ ap (λ (l : List ℕ). get_or l 0 0) a.is

-- a word of which no byte is 0
pub word_seg : (word t : List ℕ) (i : ℕ) → 0 < length word → all_to (λ j. ltb 0 (byte_at word j)) (length word) ≡ true → spelled word t i ≡ true
    → Seg t i (i + length word) word
word_seg word t i l p h =
    record {
      ends = refl;
      is = spelled-word word t i l (λ j g. ltb-true 0 (byte_at word j) (every_at (λ k. ltb 0 (byte_at word k)) (length word) j p g)) h;
    }

pub seg_word : {t : List ℕ} {i j : ℕ} (word : List ℕ) → Seg t i j word → spelled word t i ≡ true
seg_word {t} {i} {j} word a = part-spelled word t i a.is

-- a field, part by part
same_field : (x y v j : ℕ) → x ≡ v → y ≡ j → ◌≡◌ {A = Field} (record { value = x; next = y }) (record { value = v; next = j })
same_field x y v j q r = rw (q, r)

-- bits
pub bits_seg : (t : List ℕ) (i : ℕ) → is_bits t i ≡ true → Seg t i (i + 16) (bits_text (number_at 16 t i 16))
bits_seg t i h =
    let l : length (bits_text (number_at 16 t i 16)) ≡ 16 = length-bits (number_at 16 t i 16) in
    record { ends = omega arith; is = ap (λ (x : ℕ). part i x t) l ∙ bits_text_lem t i h }

pub seg_bits : {t : List ℕ} {i j : ℕ} (x : ℕ) → x < 2 ^ 64 → Seg t i j (bits_text x) → (is_bits t i ≡ true) × (number_at 16 t i 16 ≡ x)
seg_bits {t} {i} {j} x h a = text_bits x t i h (ap (λ (z : ℕ). part i z t) (sym (length-bits x)) ∙ a.is)

pub seg_bits_at : {t : List ℕ} {i j : ℕ} (x : ℕ) → x < 2 ^ 64 → Seg t i j (bits_text x) → bits_at t i ≡ record { value = x; next = i + 16 }
seg_bits_at {t} {i} {j} x h a = same_field (number_at 16 t i 16) (i + 16) x (i + 16) (seg_bits x h a).1 refl

-- a count
pub count_seg : (t : List ℕ) (i : ℕ) → has_count t i ≡ true → Seg t i (count_at t i).next (count_text (count_at t i).value)
count_seg t i h =
    let c = count_text_lem t i h in
    let l : length (count_text (count_at t i).value) ≡ width_at t i = length-count (count_at t i).value ∙ sym c.wide in
    record { ends = omega arith; is = ap (λ (x : ℕ). part i x t) l ∙ c.text }

pub count_most : (t : List ℕ) (i : ℕ) → has_count t i ≡ true → (count_at t i).value ≤ 4294967295
count_most t i h = (count_text_lem t i h).most

-- which a byte follows that is no digit
pub seg_count : {t : List ℕ} {i j : ℕ} (v : ℕ) → v ≤ 4294967295 → Seg t i j (count_text v) → is_digit (byte_at t j) ≡ false
    → (has_count t i ≡ true) × (count_at t i ≡ record { value = v; next = j })
seg_count {t} {i} {j} v h a g =
    let e : j ≡ i + width_of v = omega (arith, a.ends, length-count v) in
    let r = text_count v t i h (ap (λ (x : ℕ). part i x t) (sym (length-count v)) ∙ a.is) (rw (← e) g) in
    (r.ok, same_field (count_at t i).value (count_at t i).next v j r.value (r.next ∙ sym e))

-- and which begins with a digit
pub seg_digit : {t : List ℕ} {i j : ℕ} (v : ℕ) → Seg t i j (count_text v) → is_digit (byte_at t i) ≡ true
seg_digit {t} {i} {j} v a =
    let p : i + 0 ≡ i = omega arith in
    let d : Says 10 (byte_at t (i + 0)) =
    digits_say 10 v t i (width_of v) (omega arith) (omega arith) (ap (λ (x : ℕ). part i x t) (sym (length-count v)) ∙ a.is) 0 (width_least v) in
    rw p at (says_digit d)
