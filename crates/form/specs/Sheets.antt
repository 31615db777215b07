-- The form of a sheet as a text: what a sheet says, written out line by line, and the sheet that a text says.
use Rattle.std.specs.Prelude.{ℕ, zero, suc, ◌+◌, ◌*◌, ◌/◌, ◌%◌, ◌^◌, ◌<◌, ◌≤◌, ◌≡◌, Bool, true, ◌&&◌, eqb, leb, ltb, List, [], ◌∷◌, ◌++◌, None, Option, Some}
use Rattle.std.specs.Float.{binary64}
use Rattle.std.specs.Float.Ieee.{of_bits}
use Rattle.seq.specs.Choice.{pick}
use Rattle.seq.specs.Lists.{tabulate}
use Rattle.fields.specs.Bytes.{tab, newline, spelled}
use Rattle.fields.specs.Fields.{bits_at, count_at}
use Rattle.fields.specs.Texts.{bits_text, count_text}
use Rattle.rules.specs.declared.Rule.{Rule}
use Rattle.rules.specs.declared.Rule.TheVariants.{Target, Within}
use Rattle.head.specs.Words.{thin_word, target_word, within_word, second_edition, dash}
use Rattle.head.specs.FirstLine.{cap_at, sizes_at, head_of}
use Rattle.form.specs.Form.{col_word, wrong_line}
use Rattle.form.specs.Reading.{weight_place, weight_bits, matrix_bits, weights_of, matrix_of}

-- a rule as a sheet says it: the allowance by its bits
pub data Wish : Type 0 where
  target : ℕ → Wish
  within : ℕ → Option ℕ → Wish

-- what a sheet says: the bits of the weight of each column, and of each of its entries
pub record Sheet : Type 0 where
  pub m : ℕ
  pub n : ℕ
  pub seed : ℕ
  pub edition : ℕ
  pub wish : Wish
  pub weight : ℕ → ℕ
  pub entry : ℕ → ℕ → ℕ

abbrev pub cap_text : Option ℕ → List ℕ
cap_text None = dash ∷ []
cap_text (Some c) = count_text c

abbrev pub wish_text : Wish → List ℕ
wish_text (target t) = target_word ++ count_text t
wish_text (within a cap) = within_word ++ (bits_text a ++ (tab ∷ cap_text cap))

-- the end of the first line: edition 1 is not written
abbrev pub edition_text : ℕ → List ℕ
edition_text e = pick (eqb e 2) second_edition (newline ∷ [])

-- the first line, of the sizes, the seed, the wish and the edition
abbrev pub first_line : ℕ → ℕ → ℕ → Wish → ℕ → List ℕ
first_line m n seed wish edition =
    thin_word ++ (count_text m ++ (tab ∷ (count_text n ++ (tab ∷ (bits_text seed ++ (tab ∷ (wish_text wish ++ edition_text edition)))))))

abbrev pub head_text : Sheet → List ℕ
head_text s = first_line s.m s.n s.seed s.wish s.edition

-- k entries, each after a tab
unfoldable pub entries_text : (ℕ → ℕ) → ℕ → List ℕ
entries_text e zero = []
entries_text e (suc k) = entries_text e k ++ (tab ∷ bits_text (e k))

-- the line of a column
unfoldable pub column_text : ℕ → ℕ → (ℕ → ℕ) → List ℕ
column_text n weight e = col_word ++ (bits_text weight ++ (entries_text e n ++ (newline ∷ [])))

-- the lines of the first k columns
unfoldable pub columns_text : ℕ → (ℕ → ℕ) → (ℕ → ℕ → ℕ) → ℕ → List ℕ
columns_text n weight entry zero = []
columns_text n weight entry (suc k) = columns_text n weight entry k ++ column_text n (weight k) (entry k)

-- the whole text
abbrev pub sheet_text : Sheet → List ℕ
sheet_text s = head_text s ++ columns_text s.n s.weight s.entry s.m

-- the counts of a rule are at most 4294967295, and the allowance's bits are 64
abbrev pub cap_fits : Option ℕ → Bool
cap_fits None = true
cap_fits (Some c) = leb c 4294967295

abbrev pub wish_fits : Wish → Bool
wish_fits (target t) = leb t 4294967295
wish_fits (within a cap) = ltb a (2 ^ 64) && cap_fits cap

-- at most 32 columns and 64 rows, edition 1 or 2, and every number fits its field
pub record Fits (s : Sheet) : Type 0 where
  pub columns : s.m ≤ 32
  pub rows : s.n ≤ 64
  pub seeds : s.seed < 2 ^ 64
  pub editions : (1 ≤ s.edition) × (s.edition ≤ 2)
  pub wishes : wish_fits s.wish ≡ true
  pub weights : (j : ℕ) → j < s.m → s.weight j < 2 ^ 64
  pub entries : (j i : ℕ) → j < s.m → i < s.n → s.entry j i < 2 ^ 64

-- the rule that a wish is: the allowance is the double of its bits
abbrev pub rule_of : Wish → Rule
rule_of (target t) = Target t
rule_of (within a cap) = Within (of_bits binary64 a) cap

-- the bits of a wish's allowance, 0 where it has none
abbrev pub allowance_of : Wish → ℕ
allowance_of (target t) = 0
allowance_of (within a cap) = a

-- the wish that stands at i
abbrev pub wish_at : List ℕ → ℕ → Wish
wish_at text i = pick (spelled target_word text i) (target (count_at text (i + 7)).value)
    (within (bits_at text (i + 7)).value (cap_at text (i + 7 + 17)).cap)

-- the sheet that a text says, by places
abbrev pub sheet_of : List ℕ → Sheet
sheet_of text =
    record {
      m = (head_of text).m;
      n = (head_of text).n;
      seed = (head_of text).seed;
      edition = (head_of text).edition;
      wish = wish_at text ((sizes_at text 5).next + 17);
      weight = λ j. (bits_at text (weight_place (head_of text).next (head_of text).n j)).value;
      entry = λ j i. (bits_at text (weight_place (head_of text).next (head_of text).n j + 17 + 17 * i)).value;
    }

-- The text is that of the sheet, no line of it is wrong, and what is read from it, as bits and as doubles, is what the sheet says.
pub record Says (text : List ℕ) (s : Sheet) : Type 0 where
  pub fits : Fits s
  pub written : text ≡ sheet_text s
  pub right : wrong_line text ≡ 0
  pub columns : (head_of text).m ≡ s.m
  pub rows : (head_of text).n ≡ s.n
  pub seed : (head_of text).seed ≡ s.seed
  pub edition : (head_of text).edition ≡ s.edition
  pub rule : (head_of text).rule ≡ rule_of s.wish
  pub allowance : (head_of text).allowance ≡ allowance_of s.wish
  pub weight_bits_is : weight_bits text (head_of text) ≡ tabulate s.weight s.m
  pub matrix_bits_is : matrix_bits text (head_of text) ≡ tabulate (λ k. s.entry (k / s.n) (k % s.n)) (s.m * s.n)
  pub weights : weights_of text (head_of text) ≡ tabulate (λ j. of_bits binary64 (s.weight j)) s.m
  pub matrix : matrix_of text (head_of text) ≡ tabulate (λ k. of_bits binary64 (s.entry (k / s.n) (k % s.n))) (s.m * s.n)
