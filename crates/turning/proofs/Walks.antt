-- The sign of a row, and the zero that a sum starts from, alter a phase only in signs that decide nothing: two walks whose matrices differ in the signs
-- of whole rows and of zeros go on differing only there, and take the same decisions. A turned row turns its places of A x and A g, and the vector that it
-- gives the basis; a direction, a step and the coordinates see none of it. No zero reaches a sign or a divisor: a coordinate that moves, one that freezes and
-- a norm that is divided by are not zero.
use Prim.Native.Nat.{ℕ, zero, suc, ◌+◌, ◌/◌}
use mathlib.Core.Path.{◌≡◌, refl, sym, ap, ◌∙◌, subst}
use mathlib.Core.Bool.{Bool, true, false, not, ◌&&◌, true≢false}
use mathlib.Core.List.{List, []}
use lib.Dec.{T, ltb}
use lib.ListN.{length, get_or, take, set}
use lib.Ieee.{Float, nan, inf, fin, binary64, unlike, mul, lt, eq, le, of_bits, sub, add, neg, sum, round}
use lib.Ieee.Scale.{finite}
use Rattle.seq.specs.Sums.{plus_zero, at, product}
use Rattle.seq.specs.Sort.{sorted}
use Rattle.ieee.specs.Flat.{flat, Alike, is_zero}
use Rattle.ieee.specs.Magnitude.{abs_of}
use Rattle.ieee.proofs.Signs.{nought}
use Rattle.ieee.proofs.Ops.{unlike_false}
use Rattle.ieee.proofs.Alikes.{alike_refl, alike_of_eq, add_alike, sub_alike, mul_alike, div_alike, abs_alike, zero_alike}
use Rattle.ieee.proofs.Alikes.{lt_alike, le_alike, eq_alike, pick_alike, smaller_alike, clamp_alike}
use Rattle.ieee.proofs.Equality.{signum_alike}
use Rattle.root.proofs.RootResults.{sqrt_alike}
use Rattle.linear.specs.Vectors.{dot_of, norm_of}
use Rattle.basis.specs.Basis.{less_at, stripped, pass_to, projected, drop_tolerance, taken, over_at, unit, inserted}
use Rattle.chosen.specs.Rows.{row_of, row_norm, row_norms, times_at, times, first_rows}
use Rattle.order.specs.Order.{comes_first, worst_to}
use Rattle.seq.specs.Marks.{is_set}
use Rattle.ieee.specs.Constants.{one, minus_one}
use Rattle.direction.specs.Direction.{degenerate, after_draws, drawn, zeroed_at, zeroed, directed, too_short, uphill, turned_at, turned}
use Rattle.blocking.specs.Freeze.{freeze_limit, Walk, axis, freezes, blocking, frozen_at, freeze_to}
use Rattle.direction.specs.Step.{reach_at, reach_to, moved_at, moved, along_at, along}
use Rattle.begin.specs.Begin.{block_to, marks_to, begun}
use Rattle.walked.specs.Walk.{Stepped, drew, advanced, stepped_along, step_of, Course, further, ended, free_ones, course_from, course_of}
use Rattle.draw.specs.declared.SplitMix64.{SplitMix64}
use Rattle.turning.proofs.Signed.{Facing, facing, nan_facing, zero_facing, unlike_self, unlike_none, unlike-back}
use Rattle.turning.proofs.Signed.{add_facing, sub_facing, mul_facing, div_facing, neg_facing, pick_facing, sum_facing, above_same}
use Rattle.turning.proofs.Pairs.{Each, each_none, each_at, each_set, each_more, each_tab, each_tabs, each_same, pick-both, run-both}
use Rattle.turning.proofs.Divisors.{divisor}

-- vectors that are equal but for the sign of zeros, once the places are negated that are turned
abbrev pub Along : (ℕ → Bool) → List Float → List Float → Type 0
Along turns v w = Each (λ i. Facing (turns i)) v w

-- with no place turned
abbrev pub AlikeList : List Float → List Float → Type 0
AlikeList v w = Along (λ i. false) v w

-- with every place turned, or none
pub record AlikeVector (v w : List Float) : Type 0 where
  pub turned : Bool
  pub each : Along (λ i. turned) v w

-- lists of such vectors
abbrev pub AlikeBasis : List (List Float) → List (List Float) → Type 0
AlikeBasis b c = Each (λ k. AlikeVector) b c

pub at_facing : {turns : ℕ → Bool} {v w : List Float} → Along turns v w → (i : ℕ) → Facing (turns i) (at v i) (at w i)
at_facing {turns} p i = each_at nan (λ j. nan_facing (turns j)) p i

pub at_alike : {v w : List Float} → AlikeList v w → (i : ℕ) → Alike (at v i) (at w i)
at_alike p i = (at_facing p i).alike

pub same_list : (v : List Float) → AlikeList v v
same_list v = each_same (λ i x. facing (alike_refl x)) v

none_alike : AlikeVector [] []
none_alike = record { turned = false; each = each_none }

-- ---- tests

and_second : (s t : Bool) → (s && t) ≡ true → t ≡ true
and_second true t e = e
and_second false t e = absurd (true≢false (sym e))

-- a value that does not compare as equal to 0 is no zero
zero_equal : eq nought plus_zero ≡ true
unfolding eq of_bits
zero_equal = refl

unequal_nonzero : (x : Float) → not (eq x plus_zero) ≡ true → T (not (is_zero x))
unequal_nonzero nan h = tt
unequal_nonzero (inf s) h = tt
unequal_nonzero (fin s (suc m) e) h = tt
unequal_nonzero (fin s zero e) h =
    true≢false (sym h ∙ ap not (eq_alike {x = fin s zero e} {x' = nought} (record { flatly = refl }) (alike_refl plus_zero) ∙ zero_equal))

-- nor is one that is near enough to 1 or -1 to freeze
zero_far : le freeze_limit nought ≡ false
unfolding le lt eq of_bits sub add neg sum round
zero_far = refl

near_nonzero : (x : Float) → le freeze_limit (abs_of x) ≡ true → T (not (is_zero x))
near_nonzero nan h = tt
near_nonzero (inf s) h = tt
near_nonzero (fin s (suc m) e) h = tt
near_nonzero (fin s zero e) h =
    true≢false (sym h ∙ le_alike {y = fin false zero e} {y' = nought} (alike_refl freeze_limit) (record { flatly = refl }) ∙ zero_far)

finite-flat : (x : Float) → finite x ≡ finite (flat x)
finite-flat nan = refl
finite-flat (inf s) = refl
finite-flat (fin s zero e) = refl
finite-flat (fin s (suc m) e) = refl

finite_alike : {x y : Float} → Alike x y → finite x ≡ finite y
finite_alike {x} {y} p = finite-flat x ∙ ap finite p.flatly ∙ sym (finite-flat y)

-- ---- the walk, some rows of whose matrix are turned

-- equal but for signs that decide nothing
pub record AlikeWalk (turns : ℕ → Bool) (w w' : Walk) : Type 0 where
  pub x : AlikeList w.x w'.x
  pub free : w.free ≡ w'.free
  pub frozen : w.frozen ≡ w'.frozen
  pub ax : Along turns w.ax w'.ax
  pub blocked : w.blocked ≡ w'.blocked
  pub basis : AlikeBasis w.basis w'.basis
  pub rng : w.rng ≡ w'.rng

pub record AlikeStepped (turns : ℕ → Bool) (s s' : Stepped) : Type 0 where
  pub more : s.more ≡ s'.more
  pub walk : AlikeWalk turns s.walk s'.walk

pub record AlikeCourse (turns : ℕ → Bool) (c c' : Course) : Type 0 where
  pub more : c.more ≡ c'.more
  pub walk : AlikeWalk turns c.walk c'.walk
  pub directions : c.directions ≡ c'.directions

-- ---- what adds nothing up

module _ {x x' g g' : List Float} (px : AlikeList x x') (pg : AlikeList g g') {free free' : List ℕ} (pf : free ≡ free') where
  reach_at_alike : (p : ℕ) → T (not (is_zero (at g p))) → Alike (reach_at x g p) (reach_at x' g' p)
  reach_at_alike p h = div_alike binary64 (sub_alike binary64 (alike_of_eq (signum_alike (at_alike pg p) h)) (at_alike px p)) (at_alike pg p) h

  reach_alike : (k : ℕ) → Alike (reach_to x g free k) (reach_to x' g' free' k)
  unfolding reach_to
  reach_alike zero = alike_refl (inf false)
  reach_alike (suc k) =
      pick-both Alike (λ i. is_set (pf i) k && not (eq_alike (at_alike pg k) (alike_refl plus_zero) i))
      (λ t. smaller_alike (reach_alike k) (reach_at_alike k (unequal_nonzero (at g k) (and_second (is_set free k) (not (eq (at g k) plus_zero)) t))))
      (reach_alike k)

  moved_alike : {t t' : Float} → Alike t t' → AlikeList (moved t x g free) (moved t' x' g' free')
  unfolding moved
  moved_alike {t} {t'} p =
      each_tabs (moved_at t x g free) (moved_at t' x' g' free') px.long
      (λ i. facing (pick_alike {t = is_set free i} {t' = is_set free' i} (rw pf) (clamp_alike
      (add_alike binary64 (at_alike px i) (mul_alike binary64 p (at_alike pg i))) (alike_refl minus_one)
      (alike_refl one)) (at_alike px i)))

zeroed_alike : {g g' : List Float} {free free' : List ℕ} → free ≡ free' → AlikeList g g' → AlikeList (zeroed free g) (zeroed free' g')
unfolding zeroed
zeroed_alike {g} {g'} {free} {free'} e p =
    each_tabs (zeroed_at free g) (zeroed_at free' g') p.long
    (λ i. facing (pick_alike {t = is_set free i} {t' = is_set free' i} (rw e) (at_alike p i) (alike_refl plus_zero)))

drawn_alike : {rng rng' : SplitMix64} → rng ≡ rng' → (l : ℕ) → AlikeList (drawn rng l) (drawn rng' l)
drawn_alike {rng} {rng'} e l = rw e (same_list (drawn rng' l))

module _ {turns : ℕ → Bool} where
  along_alike : {ax ax' ag ag' : List Float} {t t' : Float} → Along turns ax ax' → Along turns ag ag' → Alike t t'
      → Along turns (along t ax ag) (along t' ax' ag')
  unfolding along
  along_alike {ax} {ax'} {ag} {ag'} {t} {t'} q r p =
      each_tabs (along_at t ax ag) (along_at t' ax' ag') q.long
      (λ i. add_facing binary64 (at_facing q i) (mul_facing binary64 (unlike_none (turns i)) (facing p) (at_facing r i)))

  turned_alike : {v v' : List Float} {t t' : Bool} → t ≡ t' → Along turns v v' → Along turns (turned t v) (turned t' v')
  unfolding turned
  turned_alike {v} {v'} {t} {t'} e p =
      each_tabs (turned_at t v) (turned_at t' v') p.long (λ i. pick_facing {t = t} {t' = t'} e (neg_facing (at_facing p i)) (at_facing p i))

  comes_same : {ax ax' norms norms' : List Float} → Along turns ax ax' → AlikeList norms norms' → (x y : ℕ)
      → comes_first ax norms x y ≡ comes_first ax' norms' x y
  unfolding comes_first
  comes_same p q x y =
      rw (
        above_same (at_facing p x) (at_facing p y),
        above_same (at_facing p y) (at_facing p x),
        above_same (at_facing q x) (at_facing q y),
        above_same (at_facing q y) (at_facing q x),
      )

  worst_same : {ax ax' : List Float} (blocked : List ℕ) (rows : ℕ) → Along turns ax ax' → (k : ℕ) → worst_to ax blocked rows k ≡ worst_to ax' blocked rows k
  unfolding worst_to
  worst_same blocked rows p zero = refl
  worst_same {ax} {ax'} blocked rows p (suc k) = rw (worst_same blocked rows p k, above_same (at_facing p k) (at_facing p (worst_to ax' blocked rows k)))

  freezes_same : {w w' : Walk} → AlikeWalk turns w w' → (p : ℕ) → freezes w p ≡ freezes w' p
  freezes_same r p = rw (r.free, le_alike (alike_refl freeze_limit) (abs_alike (at_alike r.x p)))

  drew_alike : {w w' : Walk} (l : ℕ) → AlikeWalk turns w w' → AlikeWalk turns (drew l w) (drew l w')
  drew_alike l r =
      let rng = ap (λ (m : SplitMix64). after_draws m l) r.rng in
      record { x = r.x; free = r.free; frozen = r.frozen; ax = r.ax; blocked = r.blocked; basis = r.basis; rng = rng }

-- ---- what adds up, from a zero z and from +0.0

module _ (z : Float) (start : Alike z plus_zero) where
  -- the product of two vectors is turned where at each place one of them is and the other is not
  dot_facing : {s t : ℕ → Bool} {b : Bool} {v v' w w' : List Float} → ((i : ℕ) → unlike (s i) (t i) ≡ b) → Along s v v' → Along t w w'
      → Facing b (dot_of z v w) (dot_of plus_zero v' w')
  unfolding dot_of
  dot_facing {s} {t} {b} {v} {v'} {w} {w'} e p q =
      rw p.long
      (sum_facing binary64 b (product v w) (product v' w') (length v') (zero_facing b start)
      (λ j. mul_facing binary64 (e j) (at_facing p j) (at_facing q j)))

  norm_alike : {turns : ℕ → Bool} {v v' : List Float} → Along turns v v' → Alike (norm_of z v) (norm_of plus_zero v')
  unfolding norm_of
  norm_alike {turns} p = sqrt_alike (dot_facing (λ i. unlike_self (turns i)) p p).alike

  module _ {b : Bool} where
    stripped_alike : {q q' v v' : List Float} → AlikeVector q q' → Along (λ i. b) v v' → Along (λ i. b) (stripped z q v) (stripped plus_zero q' v')
    unfolding stripped
    stripped_alike {q} {q'} {v} {v'} p r =
        each_tabs (less_at (dot_of z q v) q v) (less_at (dot_of plus_zero q' v') q' v') r.long
        (λ i. sub_facing binary64 (at_facing r i)
        (mul_facing binary64 (unlike-back p.turned b) (dot_facing (λ j. refl) p.each r) (at_facing p.each i)))

    pass_alike : {basis basis' : List (List Float)} {v v' : List Float} → AlikeBasis basis basis' → Along (λ i. b) v v' → (k : ℕ)
        → Along (λ i. b) (pass_to z basis v k) (pass_to plus_zero basis' v' k)
    unfolding pass_to
    pass_alike p q zero = q
    pass_alike p q (suc k) = stripped_alike (each_at [] (λ j. none_alike) p k) (pass_alike p q k)

    projected_alike : {basis basis' : List (List Float)} {v v' : List Float} → AlikeBasis basis basis' → Along (λ i. b) v v'
        → Along (λ i. b) (projected z basis v) (projected plus_zero basis' v')
    unfolding projected
    projected_alike {basis} {basis'} p q = rw p.long (pass_alike p (pass_alike p q (length basis')) (length basis'))

    taken_same : {basis basis' : List (List Float)} {v v' : List Float} → AlikeBasis basis basis' → Along (λ i. b) v v'
        → taken z basis v ≡ taken plus_zero basis' v'
    unfolding taken
    taken_same p q =
        rw (
          eq_alike (norm_alike q) (alike_refl plus_zero),
          le_alike (norm_alike (projected_alike p q)) (mul_alike binary64 (alike_refl drop_tolerance) (norm_alike q)),
        )

    unit_alike : {v v' : List Float} → Along (λ i. b) v v' → T (not (is_zero (norm_of plus_zero v'))) → Along (λ i. b) (unit z v) (unit plus_zero v')
    unfolding unit
    unit_alike {v} {v'} p h =
        let g : T (not (is_zero (norm_of z v))) = subst (λ (t : Bool). T (not t)) (sym (zero_alike (norm_alike p))) h in
        each_tabs (over_at (norm_of z v) v) (over_at (norm_of plus_zero v') v') p.long (λ i. div_facing binary64 (at_facing p i) (norm_alike p) g)

    inserted_alike : {basis basis' : List (List Float)} {v v' : List Float} (l : ℕ) → AlikeBasis basis basis' → Along (λ i. b) v v'
        → AlikeBasis (inserted z l basis v) (inserted plus_zero l basis' v')
    unfolding inserted
    inserted_alike {basis} {basis'} {v} {v'} l p q =
        let e : (ltb (length basis) l && taken z basis v) ≡ (ltb (length basis') l && taken plus_zero basis' v') = rw (p.long, taken_same p q) in
        pick-both AlikeBasis e
        (λ t. each_more p (record {
          turned = b;
          each = unit_alike (projected_alike p q)
              (divisor basis' v' (and_second (ltb (length basis') l) (taken plus_zero basis' v') (sym e ∙ t)));
        }))
        p

  directed_alike : {basis basis' : List (List Float)} {free free' : List ℕ} {d d' : List Float} → AlikeBasis basis basis' → free ≡ free' → AlikeList d d'
      → AlikeList (directed z basis free d) (directed plus_zero basis' free' d')
  unfolding directed
  directed_alike p e q = zeroed_alike e (projected_alike p q)

  short_same : {d d' g g' : List Float} → AlikeList d d' → AlikeList g g' → too_short z d g ≡ too_short plus_zero d' g'
  unfolding too_short
  short_same p q = le_alike (norm_alike q) (mul_alike binary64 (alike_refl degenerate) (norm_alike p))

  uphill_same : {turns : ℕ → Bool} {ax ax' ag ag' : List Float} → Along turns ax ax' → Along turns ag ag' → uphill z ax ag ≡ uphill plus_zero ax' ag'
  unfolding uphill
  uphill_same {turns} p q = lt_alike (alike_refl plus_zero) (dot_facing (λ i. unlike_self (turns i)) p q).alike

  -- two matrices that are alike once their turned rows are negated
  module _ (turns : ℕ → Bool) (a a' : ℕ → ℕ → Float) (same : (p i : ℕ) → Facing (turns i) (a p i) (a' p i)) (l n : ℕ) where
    norms_alike : AlikeList (row_norms z a l n) (row_norms plus_zero a' l n)
    norms_alike =
        each_tab (row_norm z a l) (row_norm plus_zero a' l) n
        (λ i. sum_facing binary64 false (λ p. mul binary64 (a p i) (a p i)) (λ p. mul binary64 (a' p i) (a' p i)) l (facing start)
        (λ p. mul_facing binary64 (unlike_self (turns i)) (same p i) (same p i)))

    pub times_alike : {g g' : List Float} → AlikeList g g' → Along turns (times z a l n g) (times plus_zero a' l n g')
    times_alike {g} {g'} r =
        each_tab (times_at z a g l) (times_at plus_zero a' g' l) n
        (λ i. sum_facing binary64 (turns i) (λ p. mul binary64 (a p i) (at g p)) (λ p. mul binary64 (a' p i) (at g' p)) l (zero_facing (turns i) start)
        (λ p. mul_facing binary64 (unlike_false (turns i)) (same p i) (at_facing r p)))

    first_same : {ax ax' : List Float} → Along turns ax ax' → first_rows z a l n ax ≡ first_rows plus_zero a' l n ax'
    unfolding first_rows
    first_same p = ap (λ (b : ℕ → ℕ → Bool). take (l / 4) (sorted b (λ i. i) n)) (λ i x y. comes_same p norms_alike x y i)

    row_alike : (i : ℕ) → Along (λ p. turns i) (row_of a l i) (row_of a' l i)
    row_alike i = each_tab (λ p. a p i) (λ p. a' p i) l (λ p. same p i)

    blocking_alike : {basis basis' : List (List Float)} (i : ℕ) → AlikeBasis basis basis'
        → AlikeBasis (blocking z a l i basis) (blocking plus_zero a' l i basis')
    blocking_alike i p = inserted_alike l p (row_alike i)

    block_alike : (rows : List ℕ) (k : ℕ) → AlikeBasis (block_to z a l rows k) (block_to plus_zero a' l rows k)
    unfolding block_to
    block_alike rows zero = each_none
    block_alike rows (suc k) = blocking_alike (get_or rows k 0) (block_alike rows k)

    pub begun_alike : {x x' ax ax' : List Float} (rng : SplitMix64) → AlikeList x x' → Along turns ax ax' → AlikeWalk turns
        (begun z a l n x ax rng) (begun plus_zero a' l n x' ax' rng)
    unfolding begun
    begun_alike {x} {x'} {ax} {ax'} rng p q =
        let rows : List ℕ = first_rows plus_zero a' l n ax' in
        record {
          x = p;
          free = refl;
          frozen = refl;
          ax = q;
          blocked = ap (λ (rows : List ℕ). marks_to n rows (length rows)) (first_same q);
          basis = rw (first_same q) (block_alike rows (length rows));
          rng = refl;
        }

    frozen_alike : {w w' : Walk} → AlikeWalk turns w w' → (p : ℕ) → freezes w p ≡ true → AlikeWalk turns (frozen_at z a l n w p) (frozen_at plus_zero a' l n w' p)
    unfolding frozen_at
    frozen_alike {w} {w'} r p t =
        let basis : List (List Float) = inserted z l w.basis (axis l p) in
        let basis' : List (List Float) = inserted plus_zero l w'.basis (axis l p) in
        let b : AlikeBasis basis basis' = inserted_alike l r.basis (same_list (axis l p)) in
        let row : ℕ = worst_to w.ax w.blocked n n in
        let row' : ℕ = worst_to w'.ax w'.blocked n n in
        let e : row ≡ row' = rw r.blocked (worst_same w'.blocked n r.ax n) in
        let room : (ltb row n && ltb (length basis) l) ≡ (ltb row' n && ltb (length basis') l) = rw (e, b.long) in
        record {
          x = each_set r.x p (facing (alike_of_eq (signum_alike (at_alike r.x p)
              (near_nonzero (at w.x p) (and_second (is_set w.free p) (le freeze_limit (abs_of (at w.x p))) t)))));
          free = ap (λ (free : List ℕ). set free p 0) r.free;
          frozen = ap (λ (k : ℕ). k + 1) r.frozen;
          ax = r.ax;
          blocked = pick-both (λ (v v' : List ℕ). v ≡ v') room (λ _. rw (e, r.blocked)) r.blocked;
          basis = pick-both AlikeBasis room (λ _. rw e (blocking_alike row' b)) b;
          rng = r.rng;
        }

    freeze_alike : {w w' : Walk} → AlikeWalk turns w w' → (k : ℕ) → AlikeWalk turns (freeze_to z a l n w k) (freeze_to plus_zero a' l n w' k)
    unfolding freeze_to
    freeze_alike r zero = r
    freeze_alike r (suc k) = pick-both (AlikeWalk turns) (freezes_same (freeze_alike r k) k) (λ t. frozen_alike (freeze_alike r k) k t) (freeze_alike r k)

    along_step : {w w' : Walk} {g g' : List Float} → AlikeWalk turns w w' → AlikeList g g' → AlikeStepped turns (stepped_along z a l n w g)
        (stepped_along plus_zero a' l n w' g')
    unfolding stepped_along
    along_step {w} {w'} {g} {g'} r q =
        let ag : Along turns (times z a l n g) (times plus_zero a' l n g') = times_alike q in
        let up : Bool = uphill z w.ax (times z a l n g) in
        let up' : Bool = uphill plus_zero w'.ax (times plus_zero a' l n g') in
        let e : up ≡ up' = uphill_same r.ax ag in
        let tg : AlikeList (turned up g) (turned up' g') = turned_alike e q in
        let t : Float = reach_to w.x (turned up g) w.free l in
        let t' : Float = reach_to w'.x (turned up' g') w'.free l in
        let p : Alike t t' = reach_alike r.x tg r.free l in
        let v : Walk = advanced l w t (turned up g) (turned up (times z a l n g)) in
        let v' : Walk = advanced l w' t' (turned up' g') (turned up' (times plus_zero a' l n g')) in
        let there : AlikeWalk turns v v' = record {
          x = moved_alike r.x tg r.free p;
          free = r.free;
          frozen = r.frozen;
          ax = along_alike r.ax (turned_alike e ag) p;
          blocked = r.blocked;
          basis = r.basis;
          rng = ap (λ (m : SplitMix64). after_draws m l) r.rng;
        } in
        let f : AlikeWalk turns (freeze_to z a l n v l) (freeze_to plus_zero a' l n v' l) = freeze_alike there l in
        pick-both (AlikeStepped turns) (finite_alike p) (λ _. record { more = (λ i. ltb (r.frozen i) (f.frozen i)); walk = f })
        (record { more = refl; walk = drew_alike l r })

    step_alike : {w w' : Walk} → AlikeWalk turns w w' → AlikeStepped turns (step_of z a l n w) (step_of plus_zero a' l n w')
    unfolding step_of
    step_alike {w} {w'} r =
        let d : AlikeList (drawn w.rng l) (drawn w'.rng l) = drawn_alike r.rng l in
        let g : AlikeList (directed z w.basis w.free (drawn w.rng l))
        (directed plus_zero w'.basis w'.free (drawn w'.rng l)) = directed_alike r.basis r.free d in
        pick-both (AlikeStepped turns) (short_same d g) (λ _. record { more = refl; walk = drew_alike l r }) (along_step r g)

    ended_same : (c c' : Course) → AlikeCourse turns c c' → ended l c ≡ ended l c'
    ended_same c c' r = rw (r.more, r.walk.basis.long)

    further_alike : (c c' : Course) → AlikeCourse turns c c' → AlikeCourse turns (further z a l n c) (further plus_zero a' l n c')
    further_alike c c' r =
        let s : AlikeStepped turns (step_of z a l n c.walk) (step_of plus_zero a' l n c'.walk) = step_alike r.walk in
        record { more = s.more; walk = s.walk; directions = ap suc r.directions }

    pub course_alike : {w w' : Walk} → AlikeWalk turns w w' → AlikeCourse turns (course_of z a l n w) (course_of plus_zero a' l n w')
    unfolding course_from
    course_alike {w} {w'} r =
        run-both (AlikeCourse turns) (ended l) (further z a l n) (further plus_zero a' l n) ended_same further_alike
        (ap (λ (free : List ℕ). suc (free_ones free)) r.free) (record { more = true; walk = w; directions = 0 })
        (record { more = true; walk = w'; directions = 0 }) (record { more = refl; walk = r; directions = refl })
