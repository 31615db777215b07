-- What is found in a matrix of bits and in the doubles that they stand for: where the bytes are as many as m and n say and no spare bit is set, a call for
-- several items has one number on both.
use borrow.Author.Tests.{eq-eqb}
use Prim.Native.Nat.{ℕ, ◌*◌}
use mathlib.Core.Path.{◌≡◌, refl}
use mathlib.Core.Bool.{Bool, true}
use mathlib.Core.List.{List, []}
use lib.IntN.{pos}
use lib.ListN.{length}
use lib.Ieee.{fin, le, lt, eq, of_bits}
use Rattle.seq.specs.Keep.{all_to}
use Rattle.ieee.specs.Constants.{one}
use Rattle.ieee.specs.Magnitude.{abs_of}
use Rattle.limits.specs.Limits.{bounded}
use Rattle.limits.specs.Votes.{bytes_of, spare_clear, expanded}
use Rattle.limits.proofs.ReadsAs.{length-expanded, expanded-bounded}
use Rattle.faults.specs.Faults.{whole_fault, bits_whole_fault}

-- with no doubles there is none outside [-1, 1]
pub none_outside : bounded one [] ≡ true
unfolding all_to
none_outside = refl

-- a vote is at most 1 in magnitude
vote_within : (set : Bool) → le (abs_of (fin set 1 (pos 0))) one ≡ true
unfolding of_bits le lt eq
vote_within set = refl

module _ (bits : List ℕ) (m n : ℕ) where
  -- and so is each of the doubles that bits stand for
  pub votes_bounded : bounded one (expanded bits m n) ≡ true
  votes_bounded = expanded-bounded bits m n one vote_within

  pub wholes_agree : length bits ≡ m * bytes_of n → spare_clear bits m n ≡ true
      → (items weights seeds editions rules allowances limits output numbers indices : ℕ)
      → bits_whole_fault items bits m n weights seeds editions rules allowances limits output numbers indices
      ≡ whole_fault items (expanded bits m n) m n weights seeds editions rules allowances limits output numbers indices
  unfolding bits_whole_fault whole_fault
  wholes_agree area clear items weights seeds editions rules allowances limits output numbers indices =
      rw (eq-eqb (length bits) (m * bytes_of n) area, eq-eqb (length (expanded bits m n)) (m * n) (length-expanded bits m n), clear, votes_bounded) refl
