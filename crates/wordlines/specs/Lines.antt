-- The lines of the words that moved.
use Rattle.std.specs.Prelude.{ℕ, zero, suc, List, [], ◌∷◌, ◌++◌, eqb, get_or, Float}
use Rattle.std.specs.Float.{binary64}
use Rattle.std.specs.Float.Ieee.{to_bits}
use Rattle.seq.specs.Choice.{pick}
use Rattle.seq.specs.Sums.{at}
use Rattle.fields.specs.Bytes.{tab, newline}
use Rattle.fields.specs.Texts.{bits_text, count_text}
use Rattle.marking.specs.Moved.{moved_rows, changes_at}
use Rattle.movefaults.specs.Answers.{moved_fault, lent_changes}

-- "word", which opens a word's line, with the tab that follows it
abbrev pub word_word : List ℕ
word_word = 119 ∷ 111 ∷ 114 ∷ 100 ∷ 9 ∷ []

-- the line of a row and its change
abbrev pub word_line : ℕ → Float → List ℕ
word_line row x = word_word ++ (count_text row ++ (tab ∷ (bits_text (to_bits binary64 x) ++ (newline ∷ []))))

-- the lines of the first k of a list of rows, with their changes
unfoldable pub word_lines : List ℕ → List Float → ℕ → List ℕ
word_lines rows changes zero = []
word_lines rows changes (suc k) = word_lines rows changes k ++ word_line (get_or rows k 0) (at changes k)

-- the lines of the list of which word moved, for every one of n rows in the list's order; none where the list is refused
unfoldable pub words_of : List Float → ℕ → ℕ → List Float → List Float → List ℕ
words_of matrix m n before after =
    let rows : List ℕ = moved_rows (lent_changes matrix m n before after) in
    pick (eqb (moved_fault matrix m n before after n n) 0) (word_lines rows (changes_at (lent_changes matrix m n before after) rows) n) []
