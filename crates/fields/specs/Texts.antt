-- How numbers are written.
use Rattle.std.specs.Prelude.{ℕ, zero, suc, ◌/◌, List, [], ◌∷◌, ◌++◌, ltb}
use Rattle.seq.specs.Choice.{pick}
use Rattle.fields.specs.Bytes.{tab, newline}
use Rattle.fields.specs.Digits.{digits_of}

-- bits: sixteen digits of base 16
abbrev pub bits_text : ℕ → List ℕ
bits_text x = digits_of 16 x 16

-- how many decimal digits a number has, of at most k + 1
unfoldable pub width_in : ℕ → ℕ → ℕ
width_in zero x = 1
width_in (suc k) x = let r : ℕ = width_in k (x / 10) in pick (ltb x 10) 1 (suc r)

-- how many decimal digits a number below 2^64 has
abbrev pub width_of : ℕ → ℕ
width_of x = width_in 19 x

-- a count: its decimal digits, with no leading zero
abbrev pub count_text : ℕ → List ℕ
count_text x = digits_of 10 x (width_of x)

-- a count and the tab behind it
abbrev pub tabbed : ℕ → List ℕ
tabbed x = count_text x ++ (tab ∷ [])

-- a line of a word and a number, such as "bad" with the line's
unfoldable pub note_text : List ℕ → ℕ → List ℕ
note_text word number = word ++ (count_text number ++ (newline ∷ []))
