-- A step of a standing walk: where it is finite it freezes a coordinate, and the walk stands again. So it ends its phase where the original's does,
-- and only there.
use mathlib.Core.Path.{◌≡◌, refl, sym, ap, ◌∙◌, subst}
use mathlib.Core.Logic.{◌⊎◌, inl, inr}
use Prim.Native.Nat.{ℕ, zero, suc, ◌+◌, ◌≤◌, ◌<◌, zero-le}
use native.Mathlib.Nat.{le_refl, le_trans, le-suc, eq-or-lt_of_le}
use native.Mathlib.Omega.{arith}
use borrow.Author.Tests.{lt-ltb}
use mathlib.Core.Bool.{Bool, true, false, not, ◌&&◌}
use mathlib.Core.List.{List}
use lib.Dec.{T, ltb, eqb}
use lib.ListN.{length}
use lib.Seq.{get_or-set_other}
use lib.Ieee.{Float, nan, binary64, add, sub, mul, neg, le}
use lib.Ieee.Fits.{div-fits}
use lib.Ieee.Scale.{finite}
use Rattle.seq.specs.Choice.{pick}
use Rattle.seq.specs.Sums.{plus_zero, at}
use Rattle.seq.proofs.Filling.{length-tab, get_or-tab}
use Rattle.ieee.specs.Magnitude.{abs_of, signum_of, clamp_of}
use Rattle.ieee.proofs.Ops.{Finite}
use Rattle.seq.specs.Marks.{is_set}
use Rattle.chosen.specs.Rows.{times}
use Rattle.ieee.specs.Constants.{one, minus_one}
use Rattle.blocking.specs.Freeze.{freeze_limit, Walk, freezes, frozen_at, freeze_to}
use Rattle.direction.specs.Direction.{drawn, directed, too_short, uphill, turned_at, turned}
use Rattle.direction.specs.Step.{reach_to, moved_at, moved}
use Rattle.walked.specs.Walk.{Stepped, drew, advanced, stepped_along, step_of}
use Rattle.reaching.proofs.Freezing.{least, gets_somewhere, stays_finite}
use Rattle.reaching.proofs.Divide.{negated}
use Rattle.progress.specs.Original.{reach_from, goes_on, step_on}
use Rattle.progress.proofs.Standing.{Direction, Fair, Sound, Standing, fractional, freeze_stands}

-- a finite step is a double
reach_ends : (x g : List Float) (free : List ℕ) (l : ℕ) → T (finite (reach_to x g free l)) → Finite binary64 (reach_to x g free l)
reach_ends x g free l h =
    let c = least x g free l h in
    subst (Finite binary64) c.is (record {
      held = div-fits binary64 (sub binary64 (signum_of (at g c.place)) (at x c.place)) (at g c.place);
      ends = subst (λ (q : Float). T (finite q)) (sym c.is) h;
    })

-- a direction turned is one
turned_ends : {l : ℕ} {g : List Float} (t : Bool) → Direction l g → Direction l (turned t g)
unfolding turned
turned_ends {l} {g} t d = record {
  wide = length-tab (turned_at t g) (length g) ∙ d.wide;
  ends = λ j i. subst (Finite binary64) (sym (get_or-tab (turned_at t g) (length g) j nan (subst (λ (n : ℕ). j < n) (sym d.wide) i))) (go t (d.ends j i));
}
  where
    go : (t : Bool) {x : Float} → Finite binary64 x → Finite binary64 (pick t (neg x) x)
    go true p = (negated p).ends
    go false p = p

-- ---- what freezes when all are looked at

module _ (z : Float) (a : ℕ → ℕ → Float) (l n : ℕ) where
  -- a coordinate is as it was until it is looked at
  record Untouched (w v : Walk) (p : ℕ) : Type 0 where
    x_is : at v.x p ≡ at w.x p
    free_is : is_set v.free p ≡ is_set w.free p

  untouched : (w : Walk) (p k : ℕ) → k ≤ p → Untouched w (freeze_to z a l n w k) p
  unfolding freeze_to frozen_at
  untouched w p zero h = record { x_is = refl; free_is = refl }
  untouched w p (suc k) h = go (freezes (freeze_to z a l n w k) k) (untouched w p k (le_trans (le-suc k) h))
    where
      v : Walk
      v = freeze_to z a l n w k

      apart : p ≡ k → ⊥
      apart e = omega arith

      go : (t : Bool) → Untouched w v p → Untouched w (pick t (frozen_at z a l n v k) v) p
      go true matrix = record {
        x_is = get_or-set_other v.x k p (signum_of (at v.x k)) nan apart ∙ matrix.x_is;
        free_is = ap (λ (m : ℕ). eqb m 1) (get_or-set_other v.free k p 0 0 apart) ∙ matrix.free_is;
      }
      go false matrix = matrix

  -- one more, or as many
  frozen_grows : (w : Walk) (k : ℕ) → (freeze_to z a l n w k).frozen ≤ (freeze_to z a l n w (suc k)).frozen
  unfolding freeze_to frozen_at
  frozen_grows w k = go (freezes (freeze_to z a l n w k) k)
    where
      go : (t : Bool) → (freeze_to z a l n w k).frozen ≤ (pick t (frozen_at z a l n (freeze_to z a l n w k) k) (freeze_to z a l n w k)).frozen
      go true = omega arith
      go false = omega arith

  frozen_more : (w : Walk) (k m : ℕ) → k ≤ m → (freeze_to z a l n w k).frozen ≤ (freeze_to z a l n w m).frozen
  frozen_more w k zero h =
      subst (λ (i : ℕ). (freeze_to z a l n w k).frozen ≤ (freeze_to z a l n w i).frozen) (let e : k ≡ 0 = omega arith in e) (le_refl (freeze_to z a l n w k).frozen)
  frozen_more w k (suc m) h = go (eq-or-lt_of_le h) (frozen_more w k m)
    where
      go : (k ≡ suc m) ⊎ (k < suc m) → (k ≤ m → (freeze_to z a l n w k).frozen ≤ (freeze_to z a l n w m).frozen)
          → (freeze_to z a l n w k).frozen ≤ (freeze_to z a l n w (suc m)).frozen
      go (inl e) r = subst (λ (i : ℕ). (freeze_to z a l n w k).frozen ≤ (freeze_to z a l n w i).frozen) e (le_refl (freeze_to z a l n w k).frozen)
      go (inr g) r = le_trans (r (let e : k ≤ m = omega arith in e)) (frozen_grows w m)

  frozen_here : (w : Walk) (p : ℕ) → freezes w p ≡ true → suc (freeze_to z a l n w p).frozen ≤ (freeze_to z a l n w (suc p)).frozen
  unfolding freeze_to frozen_at
  frozen_here w p e =
      subst (λ (t : Bool). suc v.frozen ≤ (pick t (frozen_at z a l n v p) v).frozen) (sym now) (let g : suc v.frozen ≤ v.frozen + 1 = omega arith in g)
    where
      v : Walk
      v = freeze_to z a l n w p

      matrix : Untouched w v p
      matrix = untouched w p p (le_refl p)

      now : freezes v p ≡ true
      now =
          ap (λ (b : Bool). b && le freeze_limit (abs_of (at v.x p))) matrix.free_is ∙ ap
          (λ (y : Float). is_set w.free p && le freeze_limit (abs_of y)) matrix.x_is ∙ e

  -- where one freezes, more are frozen
  pub some_frozen : (w : Walk) (p : ℕ) → p < l → freezes w p ≡ true → w.frozen < (freeze_to z a l n w l).frozen
  unfolding freeze_to
  some_frozen w p h e =
      let none : w.frozen ≤ (freeze_to z a l n w p).frozen = frozen_more w 0 p zero-le in
      let rest : (freeze_to z a l n w (suc p)).frozen ≤ (freeze_to z a l n w l).frozen = frozen_more w (suc p) l h in
      le_trans (le_trans (let g : suc w.frozen ≤ suc (freeze_to z a l n w p).frozen = omega arith in g) (frozen_here w p e)) rest

-- ---- the step

module _ (a : ℕ → ℕ → Float) (l n : ℕ) (fair : Fair a l n) where
  abbrev good : List (List Float) → Type 0
  good = fair.Good

  -- the walk moved by a finite step along a finite direction
  advanced-sound : (w : Walk) (t : Float) (g ag : List Float) → Finite binary64 t → Direction l g → Sound l good w → Sound l good (advanced l w t g ag)
  unfolding moved
  advanced-sound w t g ag T d s = record {
    wide = length-tab (moved_at t w.x g w.free) (length w.x) ∙ s.wide;
    basis = s.basis;
    ends = λ p h f.
        subst (Finite binary64) (sym (get_or-tab (moved_at t w.x g w.free) (length w.x) p nan (subst (λ (m : ℕ). p < m) (sym s.wide) h)))
        (subst (λ (b : Bool). Finite binary64 (pick b (clamp_of (add binary64 (at w.x p) (mul binary64 t (at g p))) minus_one one) (at w.x p)))
        (sym f) (stays_finite (s.ends p h f) T (d.ends p h)));
  }

  module _ (w : Walk) (s : Standing l good w) (g : List Float) (d : Direction l g) where
    abbrev ag : List Float
    ag = times plus_zero a l n g

    abbrev up : Bool
    up = uphill plus_zero w.ax ag

    abbrev t : Float
    t = reach_to w.x (turned up g) w.free l

    abbrev moved_on : Walk
    moved_on = advanced l w t (turned up g) (turned up ag)

    turned_so : Direction l (turned up g)
    turned_so = turned_ends up d

    -- a finite step freezes
    freezes-some : T (finite t) → w.frozen < (freeze_to plus_zero a l n moved_on l).frozen
    unfolding moved
    freezes-some h =
        let q = gets_somewhere l w.x (turned up g) w.free (fractional s) (record { each = turned_so.ends }) h in
        let at_q : at (moved t w.x (turned up g) w.free) q.place ≡ moved_at t w.x (turned up g) w.free q.place =
        get_or-tab (moved_at t w.x (turned up g) w.free) (length w.x) q.place nan
        (subst (λ (m : ℕ). q.place < m) (sym s.sound.wide) q.within) in
        some_frozen plus_zero a l n moved_on q.place q.within
        (both (is_set w.free q.place) (le freeze_limit (abs_of (at (moved t w.x (turned up g) w.free) q.place))) q.was_free
        (subst (λ (y : Float). T (le freeze_limit (abs_of y))) (sym at_q) q.freezes-now))
      where
        both : (b c : Bool) → b ≡ true → T c → (b && c) ≡ true
        both true true e matrix = refl
        both true false e matrix = absurd matrix
        both false c e matrix = e

    -- so the step goes on where it is finite, and only there
    pub along_on : (stepped_along plus_zero a l n w g).more ≡ finite t
    unfolding stepped_along
    along_on = go (finite t) refl
      where
        v : Walk
        v = freeze_to plus_zero a l n moved_on l

        go : (b : Bool) → finite t ≡ b
            → (pick {A = Stepped} b (record { more = ltb w.frozen v.frozen; walk = v }) (record { more = false; walk = drew l w })).more ≡ b
        go true e = lt-ltb w.frozen v.frozen (freezes-some (subst T (sym e) tt))
        go false e = refl

    pub along-stands : Standing l good (stepped_along plus_zero a l n w g).walk
    unfolding stepped_along
    along-stands = go (finite t) refl
      where
        v : Walk
        v = freeze_to plus_zero a l n moved_on l

        go : (b : Bool) → finite t ≡ b
            → Standing l good (pick {A = Stepped} b (record { more = ltb w.frozen v.frozen; walk = v }) (record { more = false; walk = drew l w })).walk
        go true e =
            freeze_stands a l n fair moved_on
            (advanced-sound w t (turned up g) (turned up ag) (reach_ends w.x (turned up g) w.free l (subst T (sym e) tt)) turned_so s.sound)
        go false e = record { sound = record { wide = s.sound.wide; basis = s.sound.basis; ends = s.sound.ends }; inside = s.inside }

  -- ---- a whole step

  module _ (w : Walk) (s : Standing l good w) where
    abbrev g : List Float
    g = directed plus_zero w.basis w.free (drawn w.rng l)

    direction : Direction l g
    direction = fair.finite_on w.basis w.free w.rng s.sound.basis

    goes_on_lem : (step_of plus_zero a l n w).more ≡ goes_on plus_zero a l n w
    unfolding step_of goes_on
    goes_on_lem = go (too_short plus_zero (drawn w.rng l) g)
      where
        go : (b : Bool) → (pick {A = Stepped} b (record { more = false; walk = drew l w }) (stepped_along plus_zero a l n w g)).more
            ≡ (not b && finite (reach_from plus_zero a l n w g))
        go true = refl
        go false = along_on w s g direction

    -- the step is the original's
    pub step_on_lem : step_of plus_zero a l n w ≡ step_on plus_zero a l n w
    unfolding step_on
    step_on_lem = λ i. record { more = goes_on_lem i; walk = (step_of plus_zero a l n w).walk }

    pub step_stands : Standing l good (step_of plus_zero a l n w).walk
    unfolding step_of
    step_stands = go (too_short plus_zero (drawn w.rng l) g)
      where
        go : (b : Bool) → Standing l good (pick {A = Stepped} b (record { more = false; walk = drew l w }) (stepped_along plus_zero a l n w g)).walk
        go true = record { sound = record { wide = s.sound.wide; basis = s.sound.basis; ends = s.sound.ends }; inside = s.inside }
        go false = along-stands w s g direction
