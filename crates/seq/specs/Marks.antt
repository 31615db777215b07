-- Marks: a list with 1 or 0 for each place.
use Rattle.std.specs.Prelude.{ℕ, Bool, List, eqb, get_or}

-- a mark is 1 where it is set, and 0 where it is not
abbrev pub is_set : List ℕ → ℕ → Bool
is_set marks i = eqb (get_or marks i 0) 1
