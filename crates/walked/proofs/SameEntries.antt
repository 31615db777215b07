-- A phase reads a matrix only at its l columns and n rows: two matrices with the same entries there have the same phase.
use Prim.Native.Nat.{ℕ, zero, suc, ◌/◌, ◌<◌}
use mathlib.Core.Path.{◌≡◌, refl, ap}
use mathlib.Core.Bool.{Bool, true, false, ◌&&◌}
use mathlib.Core.List.{List}
use native.Mathlib.Decide.{dec_lt}
use native.Mathlib.Omega.{arith}
use lib.Seq.{take-nil}
use lib.Dec.{ltb}
use borrow.Author.Tests.{ltb-true}
use lib.ListN.{length, get_or, take}
use lib.Ieee.{Float, binary64, mul}
use lib.Ieee.Scale.{finite}
use Rattle.seq.specs.Choice.{pick}
use Rattle.seq.specs.Sums.{sum_to, at}
use Rattle.seq.specs.Sort.{sorted}
use Rattle.seq.specs.Until.{run}
use Rattle.seq.proofs.Filling.{tab_cong}
use Rattle.seq.proofs.Summing.{sum_cong}
use Rattle.seq.proofs.Sorting.{sorted_all, take_all_of}
use Rattle.basis.specs.Basis.{inserted}
use Rattle.chosen.specs.Rows.{row_of, row_norm, row_norms, times, first_rows}
use Rattle.order.specs.Order.{comes_first, worst_to}
use Rattle.direction.specs.Direction.{uphill, turned, drawn, directed}
use Rattle.direction.specs.Step.{reach_to}
use Rattle.blocking.specs.Freeze.{Walk, axis, blocking, frozen_at, freeze_to}
use Rattle.begin.specs.Begin.{block_to, begun}
use Rattle.walked.specs.Walk.{Stepped, drew, stepped_along, step_of, further, ended, left, course_from, course_of}
use Rattle.draw.specs.declared.SplitMix64.{SplitMix64}

-- equal steps give equal loops
pub run_cong : {S : Type 0} (done : S → Bool) (f g : S → S) → ((s : S) → f s ≡ g s) → (k : ℕ) (s : S) → run done f k s ≡ run done g k s
unfolding run
run_cong done f g h zero s = refl
run_cong done f g h (suc k) s = rw (h s) (ap (pick (done s) s) (run_cong done f g h k (g s)))

pick_same : {A : Type 0} (t : Bool) (x x' y : A) → (t ≡ true → x ≡ x') → pick t x y ≡ pick t x' y
pick_same true x x' y h = h refl
pick_same false x x' y h = refl

and_first : (s t : Bool) → (s && t) ≡ true → s ≡ true
and_first true t h = refl
and_first false t h = h

module _ (z : Float) (a b : ℕ → ℕ → Float) (l n : ℕ) (same : (p i : ℕ) → p < l → i < n → a p i ≡ b p i) where
  row_same : (i : ℕ) → i < n → row_of a l i ≡ row_of b l i
  row_same i h = tab_cong (λ p. a p i) (λ p. b p i) l (λ p g. same p i g h)

  norms_same : row_norms z a l n ≡ row_norms z b l n
  norms_same =
      tab_cong (row_norm z a l) (row_norm z b l) n
      (λ i h. sum_cong binary64 z (λ p. mul binary64 (a p i) (a p i)) (λ p. mul binary64 (b p i) (b p i)) l (λ p g. rw (same p i g h)))

  pub times_same : (g : List Float) → times z a l n g ≡ times z b l n g
  times_same g =
      tab_cong (λ i. sum_to z (λ p. mul binary64 (a p i) (at g p)) l) (λ i. sum_to z (λ p. mul binary64 (b p i) (at g p)) l) n
      (λ i h. sum_cong binary64 z (λ p. mul binary64 (a p i) (at g p)) (λ p. mul binary64 (b p i) (at g p)) l (λ p k. rw (same p i k h)))

  first_same : (ax : List Float) → first_rows z a l n ax ≡ first_rows z b l n ax
  unfolding first_rows
  first_same ax = ap (λ norms. take (l / 4) (sorted (comes_first ax norms) (λ i. i) n)) norms_same

  -- a first row is a row
  first_below : (ax : List Float) → 0 < n → (k : ℕ) → get_or (first_rows z a l n ax) k 0 < n
  unfolding first_rows
  first_below ax h k =
      take_all_of (λ i. i < n) 0 h (l / 4) (sorted (comes_first ax (row_norms z a l n)) (λ i. i) n)
      (sorted_all (comes_first ax (row_norms z a l n)) (λ i. i) (λ i. i < n) 0 h n (λ i g. g)) k

  blocking_same : (i : ℕ) (basis : List (List Float)) → i < n → blocking z a l i basis ≡ blocking z b l i basis
  blocking_same i basis h = ap (inserted z l basis) (row_same i h)

  block_same : (rows : List ℕ) → ((k : ℕ) → get_or rows k 0 < n) → (k : ℕ) → block_to z a l rows k ≡ block_to z b l rows k
  unfolding block_to
  block_same rows h zero = refl
  block_same rows h (suc k) = rw (block_same rows h k) (blocking_same (get_or rows k 0) (block_to z b l rows k) (h k))

  frozen_same : (w : Walk) (p : ℕ) → frozen_at z a l n w p ≡ frozen_at z b l n w p
  unfolding frozen_at
  frozen_same w p =
      let basis : List (List Float) = inserted z l w.basis (axis l p) in
      let row : ℕ = worst_to w.ax w.blocked n n in
      let room : Bool = ltb row n && ltb (length basis) l in
      rw (pick_same room (blocking z a l row basis) (blocking z b l row basis) basis
      (λ t. blocking_same row basis (ltb-true row n (and_first (ltb row n) (ltb (length basis) l) t))))

  freeze_same : (w : Walk) (k : ℕ) → freeze_to z a l n w k ≡ freeze_to z b l n w k
  unfolding freeze_to
  freeze_same w zero = refl
  freeze_same w (suc k) = rw (freeze_same w k, frozen_same (freeze_to z b l n w k) k)

  along_same : (w : Walk) (g : List Float) → stepped_along z a l n w g ≡ stepped_along z b l n w g
  unfolding stepped_along
  along_same w g =
      rw (times_same g)
      (ap
      (λ v. pick
      (finite (reach_to w.x (turned (uphill z w.ax (times z b l n g)) g) w.free l))
      (record { more = ltb w.frozen v.frozen; walk = v })
      (record { more = false; walk = drew l w }))
      (freeze_same _ l))

  step_same : (w : Walk) → step_of z a l n w ≡ step_of z b l n w
  unfolding step_of
  step_same w = rw (along_same w (directed z w.basis w.free (drawn w.rng l)))

  pub phase_same : (w : Walk) → course_of z a l n w ≡ course_of z b l n w
  unfolding course_from
  phase_same w =
      run_cong (ended l) (further z a l n) (further z b l n)
      (λ c. ap (λ (s : Stepped). record { more = s.more; walk = s.walk; directions = suc c.directions }) (step_same c.walk))
      (left (record { more = true; walk = w; directions = 0 })) (record { more = true; walk = w; directions = 0 })

  -- of no rows none is first
  none_first : (ax : List Float) → n ≡ 0 → length (first_rows z b l n ax) ≡ 0
  unfolding first_rows sorted
  none_first ax e = rw (e, take-nil (l / 4))

  basis_same : (ax : List Float) → block_to z a l (first_rows z b l n ax) (length (first_rows z b l n ax)) ≡ block_to z b l
      (first_rows z b l n ax) (length (first_rows z b l n ax))
  unfolding block_to
  basis_same ax = go (dec_lt 0 n)
    where
      go : Dec (0 < n) → block_to z a l (first_rows z b l n ax) (length (first_rows z b l n ax)) ≡ block_to z b l
          (first_rows z b l n ax) (length (first_rows z b l n ax))
      go (yes h) = block_same (first_rows z b l n ax) (λ k. rw (first_same ax) at (first_below ax h k)) (length (first_rows z b l n ax))
      go (no h) = rw (none_first ax (omega arith))

  pub begun_same : (x ax : List Float) (rng : SplitMix64) → begun z a l n x ax rng ≡ begun z b l n x ax rng
  unfolding begun
  begun_same x ax rng = rw (first_same ax, basis_same ax)
