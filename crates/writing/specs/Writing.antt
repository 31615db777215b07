-- The sheet that lists of bits and a job say, what it is refused for, and what is then written.
use Rattle.std.specs.Prelude.{ℕ, ◌+◌, ◌*◌, ◌≡◌, Bool, not, ◌&&◌, ◌||◌, List, ◌++◌, eqb, ltb, length, get_or, drop}
use Rattle.seq.specs.Choice.{pick}
use Rattle.form.specs.Sheets.{Sheet, sheet_text}
use Rattle.opening.specs.Wishes.{wish_for}
use Rattle.writing.specs.declared.Written.{Written}

-- the sheet: the matrix is column after column
abbrev pub sheet_for : List ℕ → ℕ → ℕ → List ℕ → ℕ → ℕ → ℕ → ℕ → ℕ → Sheet
sheet_for matrix m n weights seed edition rule allowance limit =
    record {
      m = m;
      n = n;
      seed = seed;
      edition = edition;
      wish = wish_for rule allowance limit;
      weight = λ j. get_or weights j 0;
      entry = λ j i. get_or matrix (j * n + i) 0;
    }

-- sizes above the sheet's, or a target or cap above the largest count
abbrev pub too_much : ℕ → ℕ → ℕ → ℕ → Bool
too_much m n rule limit = ltb 32 m || (ltb 64 n || (not (eqb rule 1) && ltb 4294967295 limit))

-- What is refused before the text is known, by the first that applies: 2 an unknown rule, 3 too much, 4 lists of other lengths,
-- `entries` and `many`, than the sizes say, 13 an unknown edition.
unfoldable pub write_fault : ℕ → ℕ → ℕ → ℕ → ℕ → ℕ → ℕ → ℕ
write_fault entries m n many edition rule limit =
    pick (ltb 2 rule) 2
    (pick (too_much m n rule limit) 3
    (pick (not (eqb entries (m * n)) || not (eqb many m)) 4
    (pick (not (eqb edition 1) && not (eqb edition 2)) 13 0)))

-- the number: the fault, or 16 where the text is longer than the buffer
abbrev pub number_for : ℕ → ℕ → ℕ → ℕ
number_for fault long room = pick (eqb fault 0) (pick (ltb room long) 16 0) fault

-- What is answered and what the buffer holds then: the text and what stood behind it, or what it held where the number is not 0.
pub record WroteSheet (fault : ℕ) (s : Sheet) (text : List ℕ) (r : Written) (text' : List ℕ) : Type 0 where
  pub number : r.number ≡ number_for fault (length (sheet_text s)) (length text)
  pub long : r.length ≡ pick (eqb r.number 0) (length (sheet_text s)) 0
  pub writes : text' ≡ pick (eqb r.number 0) (sheet_text s ++ drop (length (sheet_text s)) text) text

-- the same of what is handed over
abbrev pub WroteFor : List ℕ → ℕ → ℕ → List ℕ → ℕ → ℕ → ℕ → ℕ → ℕ → List ℕ → Written → List ℕ → Type 0
WroteFor matrix m n weights seed edition rule allowance limit text r text' =
    WroteSheet (write_fault (length matrix) m n (length weights) edition rule limit)
    (sheet_for matrix m n weights seed edition rule allowance limit) text r text'
