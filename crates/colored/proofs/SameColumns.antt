-- A colouring reads a matrix only at its k columns and n rows: two matrices with the same entries there have the same colours.
use Prim.Native.Nat.{ℕ, zero, suc, ◌≤◌, ◌<◌}
use mathlib.Core.Path.{◌≡◌, refl, ap, ◌∙◌}
use mathlib.Core.Bool.{Bool, true, false}
use mathlib.Core.List.{List}
use native.Mathlib.Omega.{arith}
use lib.ListN.{length, get_or}
use lib.Ieee.{Float, binary64, mul, lt}
use Rattle.seq.specs.Choice.{pick}
use Rattle.seq.specs.Sums.{plus_zero, at}
use Rattle.seq.specs.Keep.{keep}
use Rattle.seq.proofs.Filling.{length-tab, tab_cong}
use Rattle.seq.proofs.Keeping.{keep-good}
use Rattle.linear.specs.Vectors.{max_abs_of}
use Rattle.ieee.specs.Magnitude.{max_abs_to}
use Rattle.chosen.specs.Rows.{times}
use Rattle.seq.specs.Marks.{is_set}
use Rattle.begin.specs.Begin.{begun}
use Rattle.flipping.specs.Search.{improvement, Search, flipped_at, improves, flipped, sweep_to, swept_of, search_to, searched}
use Rattle.walked.proofs.SameEntries.{run_cong, phase_same, begun_same, times_same}
use Rattle.places.specs.Places.{chosen}
use Rattle.phased.specs.Phase.{Between, phased}
use Rattle.colored.specs.Coloring.{settled, walked, coloring_of}
use Rattle.draw.specs.declared.SplitMix64.{SplitMix64}

-- ---- the search

pub max_abs_cong : (v w : ℕ → Float) (k : ℕ) → ((i : ℕ) → i < k → v i ≡ w i) → max_abs_to v k ≡ max_abs_to w k
unfolding max_abs_to
max_abs_cong v w zero h = refl
max_abs_cong v w (suc k) h = rw (max_abs_cong v w k (λ i l. h i (omega arith)), h k (omega arith))

module _ (c d : ℕ → Float) (n : ℕ) (same : (i : ℕ) → i < n → c i ≡ d i) (s : Search) (rows : length s.ax ≡ n) (j : ℕ) where
  at_same : (i : ℕ) → i < length s.ax → flipped_at c (at s.x j) s.ax i ≡ flipped_at d (at s.x j) s.ax i
  at_same i h = rw (same i (rw rows at h))

  improves_same : improves c s j ≡ improves d s j
  unfolding improves
  improves_same = ap (λ most. lt most (mul binary64 s.best improvement)) (max_abs_cong _ _ (length s.ax) at_same)

  flipped_same : flipped c s j ≡ flipped d s j
  unfolding flipped
  flipped_same = rw (tab_cong (flipped_at c (at s.x j) s.ax) (flipped_at d (at s.x j) s.ax) (length s.ax) at_same)

-- a flip keeps the number of rows
flipped-rows : (c : ℕ → Float) (s : Search) (j : ℕ) → length (flipped c s j).ax ≡ length s.ax
unfolding flipped
flipped-rows c s j = length-tab (flipped_at c (at s.x j) s.ax) (length s.ax)

sweep_rows : (a : ℕ → ℕ → Float) (s : Search) (k : ℕ) → length (sweep_to a s k).ax ≡ length s.ax
unfolding sweep_to
sweep_rows a s zero = refl
sweep_rows a s (suc k) = go (improves (a k) (sweep_to a s k) k) (sweep_rows a s k)
  where
    go : (t : Bool) → length (sweep_to a s k).ax ≡ length s.ax → length (pick t (flipped (a k) (sweep_to a s k) k) (sweep_to a s k)).ax ≡ length s.ax
    go true h = flipped-rows (a k) (sweep_to a s k) k ∙ h
    go false h = h

module _ (a b : ℕ → ℕ → Float) (k n : ℕ) (same : (p i : ℕ) → p < k → i < n → a p i ≡ b p i) where
  sweep_same : (s : Search) → length s.ax ≡ n → (j : ℕ) → j ≤ k → sweep_to a s j ≡ sweep_to b s j
  unfolding sweep_to
  sweep_same s e zero h = refl
  sweep_same s e (suc j) h =
      let r : length (sweep_to b s j).ax ≡ n = sweep_rows b s j ∙ e in
      let f : (i : ℕ) → i < n → a j i ≡ b j i = λ i g. same j i h g in
      rw (sweep_same s e j (omega arith), improves_same (a j) (b j) n f (sweep_to b s j) r j, flipped_same (a j) (b j) n f (sweep_to b s j) r j)

  search_same : (left made : ℕ) (s : Search) → length s.ax ≡ n → search_to a k left made s ≡ search_to b k left made s
  unfolding search_to
  search_same zero made s e = refl
  search_same (suc left) made s e =
      let r : Search = swept_of b k s in
      let f : swept_of a k s ≡ swept_of b k s = sweep_same _ e k (omega arith) in
      rw f (ap (λ more. pick r.improved more (record { x = r.x; sweeps = suc made })) (search_same left (suc made) r (sweep_rows b _ k ∙ e)))

  searched_same : (x ax : List Float) → length ax ≡ n → searched a k x ax ≡ searched b k x ax
  unfolding searched
  searched_same x ax e = search_same 100 0 (record { x = x; ax = ax; best = max_abs_of ax; improved = false }) e

  -- ---- the walk

  inside_same : (free : List ℕ) (p i : ℕ) → p < length (keep (is_set free) k) → i < n
      → a (get_or (keep (is_set free) k) p 0) i ≡ b (get_or (keep (is_set free) k) p 0) i
  inside_same free p i h g = same _ i (keep-good (is_set free) k p h).1 g

  phased_same : (z : Float) (s : Between) → phased z a k n s ≡ phased z b k n s
  unfolding phased
  phased_same z s =
      let phase : List ℕ = keep (is_set s.free) k in
      rw (
        phase_same z (λ p. a (get_or phase p 0)) (λ p. b (get_or phase p 0)) (length phase) n (inside_same s.free)
            (begun z (λ p. a (get_or phase p 0)) (length phase) n (chosen s.x phase) s.ax s.rng),
        begun_same z (λ p. a (get_or phase p 0)) (λ p. b (get_or phase p 0)) (length phase) n (inside_same s.free) (chosen s.x phase) s.ax s.rng,
      )

  walked_same : (z : Float) (rng : SplitMix64) → walked z a k n rng ≡ walked z b k n rng
  unfolding walked
  walked_same z rng = run_cong settled (phased z a k n) (phased z b k n) (phased_same z) _ _

  pub coloring_same : (z : Float) (rng : SplitMix64) → coloring_of z a k n rng ≡ coloring_of z b k n rng
  unfolding coloring_of
  coloring_same z rng =
      rw (
        walked_same z rng,
        times_same plus_zero a b k n same (walked z b k n rng).x,
        searched_same (walked z b k n rng).x (times plus_zero b k n (walked z b k n rng).x) (length-tab _ n),
      )
