-- Laws of a phase's start: the rows that are blocked at first, one after the other, and the order that they come in.
use Prim.Native.Nat.{ℕ, zero, suc, ◌+◌, ◌-◌, ◌/◌, ◌≤◌, ◌<◌}
use mathlib.Core.Path.{◌≡◌, refl, sym, ap, ap₂, ◌∙◌}
use mathlib.Core.Bool.{Bool}
use mathlib.Core.List.{List, ◌++◌}
use native.Mathlib.Omega.{arith}
use native.Mathlib.Numerals.{add-one}
use lib.ListN.{length, get_or, take, set, length-set, length-take, length-append}
use lib.Seq.{length-take-le, take-append-le}
use lib.Ieee.{Float}
use Rattle.seq.specs.Lists.{tabulate, part, placed, repeated}
use Rattle.seq.specs.Sums.{plus_zero}
use Rattle.seq.specs.Sort.{sorted}
use Rattle.seq.specs.Indices.{Pushed}
use Rattle.seq.proofs.Filling.{length-tab}
use Rattle.seq.proofs.Parts.{length_part, length-placed, part_same, part-below}
use Rattle.seq.proofs.Sorting.{length-sorted, sorted_all, take_all_of}
use Rattle.basis.specs.Held.{Inserted}
use Rattle.chosen.specs.Rows.{row_of, row_norms, first_rows}
use Rattle.order.specs.Order.{comes_first}
use Rattle.blocking.specs.Freeze.{blocking}
use Rattle.begin.specs.Begin.{block_to, marks_to}
use Rattle.blocking.specs.Held.{ax_in, basis_in}
use Rattle.begin.specs.Beginning.{BlockedFirst, Begun}
use Rattle.blocking.proofs.Scratch.{back_front}
use Rattle.blocking.proofs.Freezing.{offered_basis, offered_most}

-- what holds after the first k of the rows were blocked
pub record Blocking (a : ℕ → ℕ → Float) (l : ℕ) (first : List ℕ) (numbers₀ : List Float) (rows : ℕ) (v₀ numbers : List Float)
    (blocked : List ℕ) (v : List Float) (count k : ℕ) : Type 0 where
  pub upto : k ≤ length first
  pub nums : length numbers ≡ length numbers₀
  pub long : length blocked ≡ rows
  pub vs : length v ≡ length v₀
  pub most : count ≤ l
  pub marks : blocked ≡ marks_to rows first k
  pub ax : ax_in rows numbers ≡ ax_in rows numbers₀
  pub basis : basis_in rows l count numbers ≡ block_to plus_zero a l first k

module _ (a : ℕ → ℕ → Float) (l : ℕ) (first : List ℕ) (numbers₀ : List Float) (rows : ℕ) (v₀ : List Float) where
  pub blocking-start : (blocked : List ℕ) → length blocked ≡ rows → blocked ≡ repeated 0 (length blocked)
      → Blocking a l first numbers₀ rows v₀ numbers₀ blocked v₀ 0 0
  unfolding block_to marks_to tabulate
  blocking-start blocked lb e =
      record { upto = omega arith; nums = refl; long = lb; vs = refl; most = omega arith; marks = e ∙ ap (repeated 0) lb; ax = refl; basis = refl }

  module _ (numbers : List Float) (blocked : List ℕ) (v : List Float) (count k : ℕ) (s : Blocking a l first numbers₀ rows v₀ numbers blocked v count k) where
    abbrev base : ℕ
    base = rows + rows + rows

    pub blocking-turn : (r : ℕ) (ys v' : List Float) → k < length first → base ≤ length numbers₀
        → length ys ≡ length (part base (length numbers - base) numbers) → length v' ≡ length v
        → Inserted plus_zero count l (part base (length numbers - base) numbers) (row_of a l (get_or first k 0)) r ys
        → Blocking a l first numbers₀ rows v₀ (placed base (length numbers - base) numbers ys) (set blocked (get_or first k 0) 1) v' r (k + 1)
    unfolding block_to marks_to
    blocking-turn r ys v' h w ly lv o =
        let within : base ≤ length numbers = omega (arith, s.nums) in
        let long : length ys ≡ length numbers - base = ly ∙ length_part base (length numbers - base) numbers (omega arith) in
        record {
          upto = omega arith;
          nums = length-placed base (length numbers - base) numbers ys (omega arith) long ∙ s.nums;
          long = length-set blocked (get_or first k 0) 1 ∙ s.long;
          vs = lv ∙ s.vs;
          most = offered_most l count r base numbers (row_of a l (get_or first k 0)) ys within o s.most;
          marks = rw add-one (ap (λ (m : List ℕ). set m (get_or first k 0) 1) s.marks);
          ax = back_front base numbers ys within rows (omega arith) ∙ s.ax;
          basis = offered_basis l count r base numbers (row_of a l (get_or first k 0)) ys within o
              ∙ rw add-one (ap (λ (b : List (List Float)). blocking plus_zero a l (get_or first k 0) b) s.basis);
        }

    pub blocking_end : length first ≤ k → BlockedFirst a l first numbers₀ rows count numbers blocked
    blocking_end h =
        let done : k ≡ length first = omega (arith, s.upto) in
        record { ax = s.ax; marks = s.marks ∙ ap (marks_to rows first) done; basis = s.basis ∙ ap (block_to plus_zero a l first) done }

-- ---- the rows most at risk

-- each of them is a row
pub first_below : (z : Float) (a : ℕ → ℕ → Float) (l n : ℕ) (ax : List Float) (j : ℕ) → j < length (first_rows z a l n ax) → get_or (first_rows z a l n ax) j 0 < n
unfolding first_rows
first_below z a l zero ax j h =
    let b : ℕ → ℕ → Bool = comes_first ax (row_norms z a l 0) in
    absurd (omega (arith, length-take (l / 4) (sorted b (λ i. i) 0), length-sorted b (λ i. i) 0))
first_below z a l (suc n) ax j h =
    let b : ℕ → ℕ → Bool = comes_first ax (row_norms z a l (suc n)) in
    take_all_of (λ (i : ℕ). i < suc n) 0 (omega arith) (l / 4) (sorted b (λ i. i) (suc n))
    (sorted_all b (λ i. i) (λ (i : ℕ). i < suc n) 0 (omega arith) (suc n) (λ k g. g)) j

-- a buffer of which the first n elements are xs, with anything after it
module _ {xs : List ℕ} {n : ℕ} {buf : List ℕ} (p : Pushed xs n buf) (tail : List ℕ) where
  pub pushed_front : take n (buf ++ tail) ≡ xs
  pushed_front = take-append-le n buf tail p.within ∙ p.front

  pub pushed_fits : n ≤ length (buf ++ tail)
  pushed_fits = rw length-append (omega (arith, p.within))

  pub pushed_long : n ≡ length (take n (buf ++ tail))
  pushed_long = sym (ap length pushed_front ∙ p.long)

-- the start of a phase; k and m are as many as there are rows, and q a quarter of the columns
module _ (a : ℕ → ℕ → Float) (l rows k m q n : ℕ) (numbers ns : List Float) (zeros buf tail : List ℕ) (ek : k ≡ rows) (em : m ≡ rows) (eq : q ≡ l / 4)
    (room : rows + rows + rows ≤ length numbers) (short : q ≤ length zeros) (en : ns ≡ row_norms plus_zero a l (length (part (rows + rows) k numbers)))
    (p : Pushed (take (length (take q zeros)) (sorted
    (comes_first (part 0 m (placed (rows + rows) k numbers ns)) (part (rows + rows) k (placed (rows + rows) k numbers ns)))
    (λ i. i) (length (part 0 m (placed (rows + rows) k numbers ns))))) n buf) where
  abbrev normed : List Float
  normed = placed (rows + rows) k numbers ns

  abbrev at_risk : List ℕ
  at_risk = first_rows plus_zero a l rows (ax_in rows numbers)

  length_norms : length ns ≡ k
  length_norms = ap length en ∙ length-tab _ (length (part (rows + rows) k numbers)) ∙ length_part (rows + rows) k numbers (omega arith)

  normed_ax : ax_in rows normed ≡ ax_in rows numbers
  normed_ax = part-below 0 rows (rows + rows) k numbers ns (omega arith) (omega arith)

  pub normed_long : length normed ≡ length numbers
  normed_long = length-placed (rows + rows) k numbers ns (omega arith) length_norms

  pub first_is : take n (buf ++ tail) ≡ at_risk
  unfolding first_rows
  first_is =
      let ax : part 0 m normed ≡ ax_in rows numbers = ap (λ (j : ℕ). part 0 j normed) em ∙ normed_ax in
      let la : length (part 0 m normed) ≡ rows = ap length ax ∙ length_part 0 rows numbers (omega arith) in
      let nm : part (rows + rows) k normed ≡ row_norms plus_zero a l rows =
      part_same (rows + rows) k numbers ns (omega arith) length_norms ∙ en
      ∙ ap (row_norms plus_zero a l) (length_part (rows + rows) k numbers (omega arith) ∙ ek) in
      let lq : length (take q zeros) ≡ l / 4 = length-take-le q zeros short ∙ eq in
      pushed_front p tail
      ∙ ap (λ (j : ℕ). take j (sorted (comes_first (part 0 m normed) (part (rows + rows) k normed)) (λ i. i) (length (part 0 m normed)))) lq
      ∙ ap (λ (j : ℕ). take (l / 4) (sorted (comes_first (part 0 m normed) (part (rows + rows) k normed)) (λ i. i) j)) la
      ∙ ap₂ (λ (x y : List Float). take (l / 4) (sorted (comes_first x y) (λ i. i) rows)) ax nm

  pub first-rows-below : (j : ℕ) → j < length (take n (buf ++ tail)) → get_or (take n (buf ++ tail)) j 0 < rows
  first-rows-below = rw first_is (first_below plus_zero a l rows (ax_in rows numbers))

  pub begun_is : (r : ℕ) (numbers' : List Float) (blocked' : List ℕ) → BlockedFirst a l (take n (buf ++ tail)) normed rows r numbers'
      blocked' → Begun a l numbers rows r numbers' blocked'
  begun_is r numbers' blocked' b =
      record {
        ax = b.ax ∙ normed_ax;
        marks = b.marks ∙ ap (λ (s : List ℕ). marks_to rows s (length s)) first_is;
        basis = b.basis ∙ ap (λ (s : List ℕ). block_to plus_zero a l s (length s)) first_is;
      }
