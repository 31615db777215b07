-- The bytes of a text.
use Rattle.std.specs.Prelude.{ℕ, ◌+◌, Bool, List, eqb, length, get_or}
use Rattle.seq.specs.Keep.{all_to}

-- the tab between two fields
abbrev pub tab : ℕ
tab = 9

-- the newline at the end of a line
abbrev pub newline : ℕ
newline = 10

-- the byte at a place, and 0 past the end, which is no byte of any sheet
abbrev pub byte_at : List ℕ → ℕ → ℕ
byte_at text i = get_or text i 0

-- the word stands at i
unfoldable pub spelled : List ℕ → List ℕ → ℕ → Bool
spelled word text i = all_to (λ k. eqb (byte_at text (i + k)) (byte_at word k)) (length word)
