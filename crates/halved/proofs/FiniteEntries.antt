-- An entry of at most 1 by a finite scale is finite, a vote is one, and so is the row under the column: what lets A g pass over a column.
use borrow.Author.Tests.{eqb-true}
use Prim.Native.Nat.{ℕ, ◌+◌, ◌*◌, ◌<◌}
use mathlib.Core.Path.{◌≡◌, refl, sym}
use mathlib.Core.Bool.{Bool, true, false}
use mathlib.Core.List.{List}
use native.Mathlib.Decide.{dec_lt}
use native.Mathlib.Nat.{le_trans, le_of_eq}
use native.Mathlib.Omega.{arith}
use lib.Dec.{T, eqb}
use lib.IntN.{pos}
use lib.ListN.{length, get_or}
use lib.Ieee.{Float, fin, binary64, mul, le, fits}
use lib.Ieee.Scale.{finite}
use Rattle.seq.specs.Choice.{pick}
use Rattle.seq.specs.Sums.{at}
use Rattle.ieee.specs.Magnitude.{abs_of}
use Rattle.ieee.proofs.Ops.{Finite, finite_number}
use Rattle.ieee.proofs.Ranks.{le→mag}
use Rattle.ieee.proofs.Maximum.{le_self}
use Rattle.ieee.proofs.Sums.{abs_finite, abs_mag, abs_size}
use Rattle.ieee.proofs.Division.{unit, unit_is, unit-mag, unit_number}
use Rattle.ieee.proofs.Products.{mul-finite}
use Rattle.limits.specs.Limits.{bounded}
use Rattle.limits.specs.Matrix.{columns_of}
use Rattle.limits.specs.Votes.{bit_at, bytes_of, votes_of}
use Rattle.limits.specs.Reading.{Lies}
use Rattle.limits.proofs.Bounded.{bounded_at, finite_within}
use Rattle.ieee.specs.Constants.{one}
use Rattle.chosen.specs.Entries.{entry_of}
use Rattle.entries.proofs.Reading.{entry_own, entry-under}

product-finite : (x s : Float) → T (fits binary64 x) → Finite binary64 s → T (le (abs_of x) one) → T (finite (mul binary64 x s))
product-finite x s k f h =
    let within : T (le (abs_of x) unit) = rw (← unit_is) h in
    let p : Finite binary64 x = record { held = k; ends = finite_within x false 1 (pos 0) within } in
    let size = abs_size (finite_number p) in
    (mul-finite p f (le_trans (le_of_eq (sym (abs_mag binary64 x)))
    (le_trans (le→mag size.number (unit_number binary64) size.plus refl within) (le_of_eq (unit-mag binary64))))).ends

-- a vote is a double, and at most 1 in magnitude
vote_fits : (b : Bool) → T (fits binary64 (fin b 1 (pos 0)))
vote_fits true = unfold fits in tt
vote_fits false = unfold fits in tt

vote_small : (b : Bool) → T (le (abs_of (fin b 1 (pos 0))) one)
vote_small true = rw unit_is (le_self (unit_number binary64))
vote_small false = rw unit_is (le_self (unit_number binary64))

module _ (matrix : List Float) (bits : List ℕ) (n : ℕ) (cols : List ℕ) (scale : List Float) (p i : ℕ)
    (known : T (fits binary64 (columns_of matrix n (get_or cols p 0) i))) (scaled : T (fits binary64 (at scale p))) where
  pub finite-entry : bounded one matrix ≡ true → Lies matrix bits n (get_or cols p 0) → T (finite (at scale p))
      → T (finite (entry_of matrix bits n cols scale p i))
  finite-entry small inside t = go (dec_lt i n)
    where
      f : Finite binary64 (at scale p)
      f = record { held = scaled; ends = t }

      own : i < n → (z : Bool) → eqb (length bits) 0 ≡ z
          → T (finite (mul binary64 (pick z (columns_of matrix n (get_or cols p 0) i) (votes_of bits n (get_or cols p 0) i)) (at scale p)))
      own h true e = product-finite _ (at scale p) known f
          (bounded_at one matrix small (get_or cols p 0 * n + i) (omega (arith, inside.doubles (eqb-true (length bits) 0 e))))
      own h false e =
          let set : Bool = bit_at bits (8 * (get_or cols p 0 * bytes_of n) + i) in
          product-finite (fin set 1 (pos 0)) (at scale p) (vote_fits set) f (vote_small set)

      go : Dec (i < n) → T (finite (entry_of matrix bits n cols scale p i))
      go (yes h) = rw (entry_own matrix bits n cols scale p i h) (own h (eqb (length bits) 0) refl)
      go (no h) = rw (entry-under matrix bits n cols scale p i (omega arith)) (abs_finite f).ends
