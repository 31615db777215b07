-- The places of a vector: what is chosen there, put back there, and rounded there.
use Rattle.std.specs.Prelude.{ℕ, zero, suc, List, length, get_or, set, Float}
use Rattle.std.specs.Float.{nan}
use Rattle.std.specs.Float.Ieee.{le}
use Rattle.seq.specs.Choice.{pick}
use Rattle.seq.specs.Lists.{tabulate}
use Rattle.seq.specs.Sums.{plus_zero, at}
use Rattle.ieee.specs.Constants.{one, minus_one}
use Rattle.seq.specs.Marks.{is_set}

-- the elements of v at some places, and d for a place past its end
abbrev pub picked : {A : Type 0} → A → List A → List ℕ → List A
picked d v places = tabulate (λ p. get_or v (get_or places p 0) d) (length places)

-- of words
abbrev pub words_at : List ℕ → List ℕ → List ℕ
words_at v places = picked 0 v places

-- of doubles
abbrev pub chosen : List Float → List ℕ → List Float
chosen v places = picked nan v places

-- v with the first k of some values put back at their places
unfoldable pub put_back : {A : Type 0} → A → List ℕ → List A → List A → ℕ → List A
put_back d places values v zero = v
put_back d places values v (suc k) = set (put_back d places values v k) (get_or places k 0) (get_or values k d)

-- x rounded to 1 or -1 at the free coordinates, 0 and above to 1
abbrev pub rounded_at : List Float → List ℕ → ℕ → Float
rounded_at x free j = pick (is_set free j) (pick (le plus_zero (at x j)) one minus_one) (at x j)
