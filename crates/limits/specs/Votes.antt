-- A matrix of votes: one bit a margin, set for -1.0, row 0 the lowest of its byte, each column starting on a byte.
use Rattle.std.specs.Prelude.{ℕ, ◌+◌, ◌*◌, ◌-◌, ◌/◌, ◌%◌, ◌^◌, Bool, not, List, pos, eqb, get_or, Float}
use Rattle.std.specs.Float.{fin}
use Rattle.seq.specs.Choice.{pick}
use Rattle.seq.specs.Keep.{all_to}
use Rattle.seq.specs.Lists.{tabulate}

-- whether bit j of a byte is set
abbrev pub bit_of : ℕ → ℕ → Bool
bit_of byte j = eqb (byte / 2 ^ j % 2) 1

-- bit i of a list of bytes, the lowest of the first byte being bit 0
abbrev pub bit_at : List ℕ → ℕ → Bool
bit_at bytes i = bit_of (get_or bytes (i / 8) 0) (i % 8)

-- what a bit stands for: -1.0 where it is set, 1.0 where it is not
abbrev pub vote_at : List ℕ → ℕ → Float
vote_at bytes i = fin (bit_at bytes i) 1 (pos 0)

-- how many bytes a column of n bits takes
abbrev pub bytes_of : ℕ → ℕ
bytes_of n = (n + 7) / 8

-- a matrix of bits as a function of the column and the row
abbrev pub votes_of : List ℕ → ℕ → ℕ → ℕ → Float
votes_of bits n j i = vote_at bits (8 * (j * bytes_of n) + i)

-- no spare bit is set: in none of the m columns one above its n rows
unfoldable pub spare_clear : List ℕ → ℕ → ℕ → Bool
spare_clear bits m n =
    all_to (λ j. all_to (λ k. not (bit_at bits (8 * (j * bytes_of n) + n + k))) (8 * bytes_of n - n)) m

-- 15 a spare bit set
abbrev pub spare_fault : List ℕ → ℕ → ℕ → ℕ
spare_fault bits m n = pick (spare_clear bits m n) 0 15

-- the doubles that m columns of n bits stand for, column after column
unfoldable pub expanded : List ℕ → ℕ → ℕ → List Float
expanded bits m n = tabulate (λ k. votes_of bits n (k / n) (k % n)) (m * n)
