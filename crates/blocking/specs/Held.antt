-- Told between functions: how a walk stands in the lent scratch, A x, A g and the row norms side by side, and then the basis.
use Rattle.std.specs.Prelude.{ℕ, ◌+◌, ◌*◌, ◌≤◌, ◌≡◌, Bool, ◌&&◌, List, ltb, length, drop, set, Float}
use Rattle.seq.specs.Choice.{pick}
use Rattle.seq.specs.Lists.{part}
use Rattle.seq.specs.Sums.{plus_zero}
use Rattle.basis.specs.Held.{vectors_in}
use Rattle.order.specs.Order.{worst_to}
use Rattle.blocking.specs.Freeze.{Walk, blocking, frozen_at, freeze_to}
use Rattle.draw.specs.declared.SplitMix64.{SplitMix64}

-- A x and A g, of so many rows
abbrev pub ax_in : ℕ → List Float → List Float
ax_in rows numbers = part 0 rows numbers

abbrev pub ag_in : ℕ → List Float → List Float
ag_in rows numbers = part rows rows numbers

-- the basis of count vectors, each l long
abbrev pub basis_in : ℕ → ℕ → ℕ → List Float → List (List Float)
basis_in rows l count numbers = vectors_in l count (drop (rows + rows + rows) numbers)

-- the walk that the scratch, the vectors over the columns and the numbers hold
abbrev pub held : List Float → List ℕ → List Float → List ℕ → ℕ → ℕ → SplitMix64 → Walk
held numbers blocked x free count frozen rng = record {
  x = x;
  free = free;
  frozen = frozen;
  ax = ax_in (length blocked) numbers;
  blocked = blocked;
  basis = basis_in (length blocked) (length x) count numbers;
  rng = rng;
}

-- the scratch has room for the rows and for a full basis, and the vectors over the l columns are as long
pub record Roomy (l : ℕ) (numbers : List Float) (blocked : List ℕ) (x : List Float) (free : List ℕ) (count : ℕ) : Type 0 where
  pub room : length blocked + length blocked + length blocked + l * l ≤ length numbers
  pub wide : length x ≡ l
  pub marks : length free ≡ l
  pub most : count ≤ l

-- the worst row that is not blocked, or the number of rows
abbrev pub worst_in : List Float → List ℕ → ℕ
worst_in numbers blocked = worst_to (ax_in (length blocked) numbers) blocked (length blocked) (length blocked)

-- there is such a row, and the basis is short of l
abbrev pub room_for : List Float → List ℕ → ℕ → ℕ → Bool
room_for numbers blocked l count = ltb (worst_in numbers blocked) (length blocked) && ltb count l

-- numbers', blocked' and the count r after the worst row was blocked, where there was one and the basis of count vectors was short of l
pub record Blocked (a : ℕ → ℕ → Float) (l : ℕ) (numbers : List Float) (blocked : List ℕ) (count r : ℕ)
    (numbers' : List Float) (blocked' : List ℕ) : Type 0 where
  pub ax : ax_in (length blocked) numbers' ≡ ax_in (length blocked) numbers
  pub marks : blocked' ≡ pick (room_for numbers blocked l count) (set blocked (worst_in numbers blocked) 1) blocked
  pub basis : basis_in (length blocked) l r numbers'
      ≡ pick (room_for numbers blocked l count) (blocking plus_zero a l (worst_in numbers blocked) (basis_in (length blocked) l count numbers))
      (basis_in (length blocked) l count numbers)

-- coordinate p froze: the scratch holds the walk after that, with r vectors, whatever number froze before it and whatever the generator is
pub record FreezesOne (a : ℕ → ℕ → Float) (l : ℕ) (numbers : List Float) (blocked : List ℕ) (x : List Float) (free : List ℕ) (count p r : ℕ)
    (numbers' : List Float) (blocked' : List ℕ) (x' : List Float) (free' : List ℕ) : Type 0 where
  pub holds : (frozen : ℕ) (rng : SplitMix64) → held numbers' blocked' x' free' r (frozen + 1) rng
      ≡ frozen_at plus_zero a l (length blocked) (held numbers blocked x free count frozen rng) p

-- all l coordinates were looked at, and those at the limit froze: the scratch holds the walk after that, whatever the generator is
pub record FreezesAll (a : ℕ → ℕ → Float) (l : ℕ) (numbers : List Float) (blocked : List ℕ) (x : List Float) (free : List ℕ)
    (count frozen count' frozen' : ℕ) (numbers' : List Float) (blocked' : List ℕ) (x' : List Float) (free' : List ℕ) : Type 0 where
  pub holds : (rng : SplitMix64) → held numbers' blocked' x' free' count' frozen' rng
      ≡ freeze_to plus_zero a l (length blocked) (held numbers blocked x free count frozen rng) l
