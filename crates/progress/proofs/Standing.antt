-- What holds of a walk at each step of its phase: its basis is good, and its free coordinates are below the freezing limit.
use mathlib.Core.Path.{◌≡◌, refl, sym, ap, ◌∙◌, subst}
use mathlib.Core.Logic.{◌⊎◌, inl, inr}
use Prim.Native.Nat.{ℕ, zero, suc, ◌/◌, ◌≤◌, ◌<◌}
use native.Mathlib.Nat.{le_trans, le-suc, lt-suc_self, eq-or-lt_of_le, eq-zero-or-pos}
use native.Mathlib.Decide.{dec_lt}
use native.Mathlib.Omega.{arith}
use borrow.Author.Tests.{ltb-true}
use mathlib.Core.Bool.{Bool, true, false, ◌&&◌}
use mathlib.Core.List.{List, []}
use lib.Dec.{T, ltb, eqb}
use lib.ListN.{length, get_or, take, set, length-set}
use lib.Seq.{get_or-set_same, get_or-set_other, take-nil}
use lib.Ieee.{Float, nan, binary64, lt, le}
use Rattle.seq.specs.Choice.{pick}
use Rattle.seq.specs.Sums.{plus_zero, at}
use Rattle.seq.specs.Sort.{sorted}
use Rattle.seq.proofs.Choosing.{both}
use Rattle.seq.proofs.Sorting.{sorted_all, take_all_of}
use Rattle.ieee.specs.Magnitude.{abs_of, signum_of}
use Rattle.ieee.proofs.Ops.{Finite}
use Rattle.places.proofs.Places.{get_or_out}
use Rattle.basis.specs.Basis.{inserted}
use Rattle.order.specs.Order.{worst_to, comes_first}
use Rattle.seq.specs.Marks.{is_set}
use Rattle.chosen.specs.Rows.{row_of, row_norms, first_rows}
use Rattle.blocking.specs.Freeze.{freeze_limit, Walk, axis, freezes, blocking, frozen_at, freeze_to}
use Rattle.direction.specs.Direction.{drawn, directed}
use Rattle.begin.specs.Begin.{block_to, begun}
use Rattle.reaching.proofs.Freezing.{Fractional, stays_inside}
use Rattle.progress.specs.Original.{Generator}

-- ---- what a phase's matrix has to give

-- a direction: l finite entries
pub record Direction (l : ℕ) (g : List Float) : Type 0 where
  pub wide : length g ≡ l
  pub ends : (p : ℕ) → p < l → Finite binary64 (at g p)

-- Something holds of a basis that lasts: of none, and with each axis and each row of the matrix. Directions projected on such a basis are finite.
pub record Fair (a : ℕ → ℕ → Float) (l n : ℕ) : Type 1 where
  pub Good : List (List Float) → Type 0
  pub none : Good []
  pub axes : (basis : List (List Float)) (p : ℕ) → Good basis → Good (inserted plus_zero l basis (axis l p))
  pub rows : (basis : List (List Float)) (i : ℕ) → i < n → Good basis → Good (inserted plus_zero l basis (row_of a l i))
  pub finite_on : (basis : List (List Float)) (free : List ℕ) (rng : Generator) → Good basis → Direction l (directed plus_zero basis free (drawn rng l))

-- ---- a walk

-- l coordinates and a good basis; at its free places x is finite
pub record Sound (l : ℕ) (Good : List (List Float) → Type 0) (w : Walk) : Type 0 where
  pub wide : length w.x ≡ l
  pub basis : Good w.basis
  pub ends : (p : ℕ) → p < l → is_set w.free p ≡ true → Finite binary64 (at w.x p)

-- and below the limit, at those before k
pub record Halfway (l : ℕ) (Good : List (List Float) → Type 0) (k : ℕ) (w : Walk) : Type 0 where
  pub sound : Sound l Good w
  pub inside : (p : ℕ) → p < l → p < k → is_set w.free p ≡ true → T (lt (abs_of (at w.x p)) freeze_limit)

-- at all of them: so the walk stands at each of its steps
pub record Standing (l : ℕ) (Good : List (List Float) → Type 0) (w : Walk) : Type 0 where
  pub sound : Sound l Good w
  pub inside : (p : ℕ) → p < l → is_set w.free p ≡ true → T (lt (abs_of (at w.x p)) freeze_limit)

pub fractional : {l : ℕ} {Good : List (List Float) → Type 0} {w : Walk} → Standing l Good w → Fractional l w.x w.free
fractional s = record { held = λ p h f. (s.sound.ends p h f).held; inside = s.inside }

picked : {A : Type 0} (P : A → Type 0) (t : Bool) (x y : A) → (t ≡ true → P x) → P y → P (pick t x y)
picked P true x y p q = p refl
picked P false x y p q = q

-- a place that is free after p froze is another, and was free
module _ (x : List Float) (free : List ℕ) (p : ℕ) (y : Float) where
  other : (q : ℕ) → is_set (set free p 0) q ≡ true → (q ≡ p → ⊥)
  other q f e = go (dec_lt p (length free)) f
    where
      at_p : eqb (get_or (set free p 0) q 0) 1 ≡ eqb (get_or (set free p 0) p 0) 1
      at_p = ap (λ (i : ℕ). eqb (get_or (set free p 0) i 0) 1) e

      off : true ≡ false → ⊥
      off b = subst T b tt

      go : Dec (p < length free) → is_set (set free p 0) q ≡ true → ⊥
      go (yes h) f = off (sym f ∙ at_p ∙ ap (λ (v : ℕ). eqb v 1) (get_or-set_same free p 0 0 h))
      go (no h) f =
          off (sym f ∙ at_p ∙ ap (λ (v : ℕ). eqb v 1) (get_or_out (set free p 0) p 0
          (subst (λ (m : ℕ). m ≤ p) (sym (length-set free p 0)) (let g : length free ≤ p = omega arith in g))))

  was : (q : ℕ) → is_set (set free p 0) q ≡ true → is_set free q ≡ true
  was q f = ap (λ (v : ℕ). eqb v 1) (sym (get_or-set_other free p q 0 0 (other q f))) ∙ f

  same : (q : ℕ) → is_set (set free p 0) q ≡ true → at (set x p y) q ≡ at x q
  same q f = get_or-set_other x p q y nan (other q f)

-- of no rows none is first
no_rows : (b : ℕ → ℕ → Bool) (q k : ℕ) → k < length (take q (sorted b (λ (i : ℕ). i) 0)) → ⊥
unfolding sorted
no_rows b q k h = let z : k < 0 = subst (λ (v : List ℕ). k < length v) (take-nil q) h in omega arith

module _ (a : ℕ → ℕ → Float) (l n : ℕ) (fair : Fair a l n) where
  abbrev good : List (List Float) → Type 0
  good = fair.Good

  -- ---- freezing

  frozen_basis : (w : Walk) (p : ℕ) → good w.basis → good (frozen_at plus_zero a l n w p).basis
  unfolding frozen_at
  frozen_basis w p b =
      let basis : List (List Float) = inserted plus_zero l w.basis (axis l p) in
      let row : ℕ = worst_to w.ax w.blocked n n in
      let c : good basis = fair.axes w.basis p b in
      picked good (ltb row n && ltb (length basis) l) (blocking plus_zero a l row basis) basis
      (λ e. fair.rows basis row (ltb-true row n (both (ltb row n) (ltb (length basis) l) e).0) c) c

  frozen_sound : (w : Walk) (p : ℕ) → Sound l good w → Sound l good (frozen_at plus_zero a l n w p)
  unfolding frozen_at
  frozen_sound w p s = record {
    wide = length-set w.x p (signum_of (at w.x p)) ∙ s.wide;
    basis = frozen_basis w p s.basis;
    ends = λ q h f. subst (Finite binary64) (sym (same w.x w.free p (signum_of (at w.x p)) q f)) (s.ends q h (was w.x w.free p plus_zero q f));
  }

  frozen_inside : (w : Walk) (k : ℕ) → Halfway l good k w → Halfway l good (suc k) (frozen_at plus_zero a l n w k)
  unfolding frozen_at
  frozen_inside w k s = record {
    sound = frozen_sound w k s.sound;
    inside = λ q h g f.
        let o = other w.x w.free k plus_zero q f in
        subst (λ (y : Float). T (lt (abs_of y) freeze_limit)) (sym (same w.x w.free k (signum_of (at w.x k)) q f))
        (s.inside q h (less q k g o) (was w.x w.free k plus_zero q f));
  }
    where
      less : (q k : ℕ) → q < suc k → (q ≡ k → ⊥) → q < k
      less q k g o = go (eq-or-lt_of_le (let m : q ≤ k = omega arith in m))
        where
          go : (q ≡ k) ⊎ (q < k) → q < k
          go (inl e) = absurd (o e)
          go (inr m) = m

  passed_inside : (w : Walk) (k : ℕ) → freezes w k ≡ false → Halfway l good k w → Halfway l good (suc k) w
  passed_inside w k e s = record { sound = s.sound; inside = λ q h g f. go q h f (eq-or-lt_of_le (let m : q ≤ k = omega arith in m)) }
    where
      below : is_set w.free k ≡ true → le freeze_limit (abs_of (at w.x k)) ≡ false
      below f = ap (λ (t : Bool). t && le freeze_limit (abs_of (at w.x k))) (sym f) ∙ e

      go : (q : ℕ) → q < l → is_set w.free q ≡ true → (q ≡ k) ⊎ (q < k) → T (lt (abs_of (at w.x q)) freeze_limit)
      go q h f (inr m) = s.inside q h m f
      go q h f (inl i) =
          let g : is_set w.free k ≡ true = ap (is_set w.free) (sym i) ∙ f in
          subst (λ (m : ℕ). T (lt (abs_of (at w.x m)) freeze_limit)) (sym i)
          (stays_inside (s.sound.ends k (subst (λ (m : ℕ). m < l) i h) g) (below g))

  freeze_halfway : (w : Walk) (k : ℕ) → Sound l good w → Halfway l good k (freeze_to plus_zero a l n w k)
  unfolding freeze_to
  freeze_halfway w zero s = record { sound = s; inside = λ q h g f. absurd (let z : ⊥ = omega arith in z) }
  freeze_halfway w (suc k) s = go (freezes (freeze_to plus_zero a l n w k) k) refl (freeze_halfway w k s)
    where
      go : (t : Bool) → freezes (freeze_to plus_zero a l n w k) k ≡ t → Halfway l good k (freeze_to plus_zero a l n w k)
          → Halfway l good (suc k) (pick t (frozen_at plus_zero a l n (freeze_to plus_zero a l n w k) k) (freeze_to plus_zero a l n w k))
      go true e r = frozen_inside (freeze_to plus_zero a l n w k) k r
      go false e r = passed_inside (freeze_to plus_zero a l n w k) k e r

  -- once all coordinates were looked at, the walk stands
  pub freeze_stands : (w : Walk) → Sound l good w → Standing l good (freeze_to plus_zero a l n w l)
  freeze_stands w s = let r = freeze_halfway w l s in record { sound = r.sound; inside = λ q h f. r.inside q h h f }

  -- ---- the start of a phase

  first_below : (ax : List Float) (k : ℕ) → k < length (first_rows plus_zero a l n ax) → get_or (first_rows plus_zero a l n ax) k 0 < n
  unfolding first_rows
  first_below ax k h = go (eq-zero-or-pos n)
    where
      order : ℕ → List ℕ
      order m = sorted (comes_first ax (row_norms plus_zero a l n)) (λ i. i) m

      go : (n ≡ 0) ⊎ (0 < n) → get_or (first_rows plus_zero a l n ax) k 0 < n
      go (inl e) =
          let g : k < length (take (l / 4) (order 0)) = subst (λ (m : ℕ). k < length (take (l / 4) (order m))) e h in
          absurd (no_rows (comes_first ax (row_norms plus_zero a l n)) (l / 4) k g)
      go (inr some) =
          take_all_of (λ i. i < n) 0 some (l / 4) (order n) (sorted_all (comes_first ax (row_norms plus_zero a l n)) (λ i. i) (λ i. i < n) 0 some n (λ i g. g)) k

  block_basis : (rows : List ℕ) (k : ℕ) → ((i : ℕ) → i < k → get_or rows i 0 < n) → good (block_to plus_zero a l rows k)
  unfolding block_to
  block_basis rows zero h = fair.none
  block_basis rows (suc k) h =
      fair.rows (block_to plus_zero a l rows k) (get_or rows k 0) (h k (lt-suc_self k)) (block_basis rows k (λ i g. h i (le_trans g (le-suc k))))

  -- a phase that begins at coordinates below the limit stands
  pub begun-stands : (x ax : List Float) (rng : Generator) → length x ≡ l → ((p : ℕ) → p < l → Finite binary64 (at x p))
      → ((p : ℕ) → p < l → T (lt (abs_of (at x p)) freeze_limit))
      → Standing l good (begun plus_zero a l n x ax rng)
  unfolding begun
  begun-stands x ax rng e ends inside = record {
    sound = record {
      wide = e;
      basis = block_basis (first_rows plus_zero a l n ax) (length (first_rows plus_zero a l n ax)) (first_below ax);
      ends = λ p h f. ends p h;
    };
    inside = λ p h f. inside p h;
  }
