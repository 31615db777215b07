-- The table's rule, proved over the whole table by one computed test, and read off it for each series.
use Prim.Native.Nat.{ℕ, ◌+◌, ◌<◌}
use mathlib.Core.Bool.{Bool}
use mathlib.Core.List.{List, [], ◌∷◌}
use mathlib.Core.Path.{◌≡◌, ◌∙◌}
use native.Mathlib.Nat.{add-sub_cancel_left}
use native.Mathlib.Omega.{arith}
use borrow.Author.Tests.{lt-ltb, le-ltb}
use lib.Dec.{eqb, eqb→eq}
use lib.ListN.{get_or}
use Rattle.divisors.specs.Divisors.{divisor, odd_divisor, divisor_at}
use Rattle.divisors.proofs.Upto.{below}

-- the table as the code has it
abbrev pub divisors : List ℕ
divisors =
    2 ∷ 12 ∷ 30 ∷ 56 ∷ 90 ∷ 132 ∷ 182 ∷ 240 ∷ 306 ∷ 380 ∷ 462 ∷ 552 ∷ 650 ∷ 756 ∷ 870 ∷ 992 ∷ 1122 ∷ 1260 ∷ 1406 ∷ 1560
    ∷ 1 ∷ 3 ∷ 5 ∷ 7 ∷ 9 ∷ 11 ∷ 13 ∷ 15 ∷ 17 ∷ 19 ∷ 21 ∷ 23 ∷ 25 ∷ 27 ∷ 29 ∷ 31 ∷ 33 ∷ []

-- the test at the entry k
right : ℕ → Bool
right k = eqb (get_or divisors k 0) (divisor_at k)

-- every entry of the table is what the rule says
pub table_rule : (k : ℕ) → k < 37 → get_or divisors k 0 ≡ divisor_at k
unfolding right
table_rule k l = eqb→eq (get_or divisors k 0) (divisor_at k) (below right 37 tt k l)

pub cosine_divisor : (k : ℕ) → k < 20 → get_or divisors k 0 ≡ divisor k
cosine_divisor k l = table_rule k (omega arith) ∙ rw (lt-ltb k 20 l)

pub odd-divisor : (k : ℕ) → k < 17 → get_or divisors (20 + k) 0 ≡ odd_divisor k
odd-divisor k l = table_rule (20 + k) (omega arith) ∙ rw (le-ltb (20 + k) 20 (omega arith), add-sub_cancel_left)
