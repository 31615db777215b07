-- Digits: what each says, and the digits of a number.
use Rattle.std.specs.Prelude.{ℕ, zero, suc, ◌+◌, ◌*◌, ◌-◌, ◌/◌, ◌%◌, Bool, ◌&&◌, List, [], ◌∷◌, ◌++◌, leb, ltb}
use Rattle.seq.specs.Choice.{pick}
use Rattle.fields.specs.Bytes.{byte_at}

-- one of 0 to 9
abbrev pub is_digit : ℕ → Bool
is_digit b = leb 48 b && leb b 57

-- one of A to F
abbrev pub is_letter : ℕ → Bool
is_letter b = leb 65 b && leb b 70

-- what a digit says, and 0 for a byte that is none
abbrev pub digit_value : ℕ → ℕ
digit_value b = pick (is_digit b) (b - 48) (pick (is_letter b) (b - 55) 0)

-- the digit that says d
abbrev pub digit_for : ℕ → ℕ
digit_for d = pick (ltb d 10) (48 + d) (55 + d)

-- the number that k digits from i say
unfoldable pub number_at : ℕ → List ℕ → ℕ → ℕ → ℕ
number_at base text i zero = 0
number_at base text i (suc k) = number_at base text i k * base + digit_value (byte_at text (i + k))

-- the last k digits of a number
unfoldable pub digits_of : ℕ → ℕ → ℕ → List ℕ
digits_of base x zero = []
digits_of base x (suc k) = digits_of base (x / base) k ++ (digit_for (x % base) ∷ [])
