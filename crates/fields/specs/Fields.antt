-- What stands at a place of a text: bits, or a count.
use Rattle.std.specs.Prelude.{ℕ, zero, suc, ◌+◌, Bool, not, ◌&&◌, ◌||◌, List, eqb, leb, ltb}
use Rattle.seq.specs.Choice.{pick}
use Rattle.seq.specs.Keep.{all_to}
use Rattle.fields.specs.Bytes.{byte_at}
use Rattle.fields.specs.Digits.{is_digit, is_letter, number_at}
use Rattle.fields.specs.declared.Field.{Field}

-- sixteen digits of base 16 stand at i, in upper case
unfoldable pub is_bits : List ℕ → ℕ → Bool
is_bits text i = all_to (λ k. is_digit (byte_at text (i + k)) || is_letter (byte_at text (i + k))) 16

-- the bits at i
abbrev pub bits_at : List ℕ → ℕ → Field
bits_at text i = record { value = number_at 16 text i 16; next = i + 16 }

-- how many decimal digits stand at i, of at most k
unfoldable pub digits_from : List ℕ → ℕ → ℕ → ℕ
digits_from text i zero = 0
digits_from text i (suc k) = let r : ℕ = digits_from text (suc i) k in pick (is_digit (byte_at text i)) (suc r) 0

-- how many there are, of at most 11: that many are no count
abbrev pub width_at : List ℕ → ℕ → ℕ
width_at text i = digits_from text i 11

-- a count of w digits that says v: at least one digit and at most ten, no leading zero, and at most 4294967295
abbrev pub is_count : List ℕ → ℕ → ℕ → ℕ → Bool
is_count text i w v = ltb 0 w && (ltb w 11 && ((ltb w 2 || not (eqb (byte_at text i) 48)) && leb v 4294967295))

-- a count stands at i
abbrev pub has_count : List ℕ → ℕ → Bool
has_count text i = is_count text i (width_at text i) (number_at 10 text i (width_at text i))

-- the count at i
abbrev pub count_at : List ℕ → ℕ → Field
count_at text i = record { value = number_at 10 text i (width_at text i); next = i + width_at text i }
