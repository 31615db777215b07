-- The step of a walk is the reach of some free coordinate, and that one then passes the freezing test, clamped as it is.
use mathlib.Core.Path.{◌≡◌, refl, sym, subst}
use Prim.Native.Nat.{ℕ, zero, suc, ◌<◌}
use native.Mathlib.Nat.{le_trans, le-suc, lt-suc_self}
use mathlib.Core.Bool.{Bool, true, false, not, ◌&&◌}
use mathlib.Core.List.{List}
use lib.IntN.{pos}
use lib.Dec.{T}
use lib.Ieee.{Float, nan, inf, fin, binary64, of_bits, add, sub, mul, neg, fits, is_nan, lt, le, eq}
use lib.Ieee.Fits.{add-fits, mul-fits}
use lib.Ieee.Scale.{finite}
use Rattle.seq.specs.Choice.{pick}
use Rattle.seq.specs.Sums.{plus_zero, at}
use Rattle.seq.proofs.Choosing.{both}
use Rattle.ieee.specs.Units.{is_num}
use Rattle.ieee.specs.Magnitude.{abs_of, smaller_of, clamp_of}
use Rattle.ieee.proofs.Ranks.{Number, lt_not_le}
use Rattle.ieee.proofs.Ops.{Finite, finite_number}
use Rattle.ieee.proofs.Sums.{abs_size}
use Rattle.ieee.proofs.Products.{mul-units}
use Rattle.ieee.proofs.SignedSums.{add_rounded}
use Rattle.seq.specs.Marks.{is_set}
use Rattle.ieee.specs.Constants.{one, minus_one}
use Rattle.blocking.specs.Freeze.{freeze_limit}
use Rattle.direction.specs.Step.{reach_at, reach_to, moved_at}
use Rattle.reaching.specs.Reaching.{Free, led_to}
use Rattle.reaching.proofs.Reach.{reaches}

-- ---- the clamp to [-1, 1] keeps what has reached the limit

ends_reach : (s : Bool) → T (le freeze_limit (abs_of (fin s 1 (pos 0))))
unfolding le lt eq sub add neg of_bits
ends_reach true = tt
ends_reach false = tt

abbrev clamped : Float → Float
clamped y = clamp_of y minus_one one

pub clamp_keeps : (y : Float) → T (le freeze_limit (abs_of y)) → T (le freeze_limit (abs_of (clamped y)))
unfolding clamp_of of_bits
clamp_keeps y h = go (lt y (fin true 1 (pos 0))) (lt (fin false 1 (pos 0)) y)
  where
    go : (b c : Bool) → T (le freeze_limit (abs_of (pick b (fin true 1 (pos 0)) (pick c (fin false 1 (pos 0)) y))))
    go true c = ends_reach true
    go false true = ends_reach false
    go false false = h

-- ---- a finite step is some coordinate's reach

-- coordinate p is free and moves
abbrev pub moves : List Float → List ℕ → ℕ → Bool
moves g free p = is_set free p && not (eq (at g p) plus_zero)

pub record Least (x g : List Float) (free : List ℕ) (k : ℕ) (r : Float) : Type 0 where
  pub place : ℕ
  pub within : place < k
  pub passes : moves g free place ≡ true
  pub is : reach_at x g place ≡ r

pub least : (x g : List Float) (free : List ℕ) (k : ℕ) → T (finite (reach_to x g free k)) → Least x g free k (reach_to x g free k)
unfolding reach_to smaller_of
least x g free zero h = absurd h
least x g free (suc k) h =
    go (moves g free k) refl (is_nan (reach_to x g free k)) (lt (reach_at x g k) (reach_to x g free k)) (least x g free k) h
  where
    r : Float
    r = reach_to x g free k

    more : Least x g free k r → Least x g free (suc k) r
    more c = record { place = c.place; within = le_trans c.within (le-suc k); passes = c.passes; is = c.is }

    go : (a : Bool) → moves g free k ≡ a → (b c : Bool) → (T (finite r) → Least x g free k r)
        → T (finite (pick a (pick b (reach_at x g k) (pick c (reach_at x g k) r)) r)) → Least x g free (suc k)
        (pick a (pick b (reach_at x g k) (pick c (reach_at x g k) r)) r)
    go true e true c ih h = record { place = k; within = lt-suc_self k; passes = e; is = refl }
    go true e false true ih h = record { place = k; within = lt-suc_self k; passes = e; is = refl }
    go true e false false ih h = more (ih h)
    go false e b c ih h = more (ih h)

-- ---- a whole step

-- at each free coordinate of l, x is below the limit and the direction finite
pub record Fractional (l : ℕ) (x : List Float) (free : List ℕ) : Type 0 where
  pub held : (p : ℕ) → p < l → is_set free p ≡ true → T (fits binary64 (at x p))
  pub inside : (p : ℕ) → p < l → is_set free p ≡ true → T (lt (abs_of (at x p)) freeze_limit)

pub record Ended (l : ℕ) (g : List Float) : Type 0 where
  pub each : (p : ℕ) → p < l → Finite binary64 (at g p)

-- a coordinate that was free, and that freezes
pub record Somewhere (l : ℕ) (x g : List Float) (free : List ℕ) (t : Float) : Type 0 where
  pub place : ℕ
  pub within : place < l
  pub was_free : is_set free place ≡ true
  pub freezes-now : T (le freeze_limit (abs_of (moved_at t x g free place)))

pub gets_somewhere : (l : ℕ) (x g : List Float) (free : List ℕ) → Fractional l x free → Ended l g → T (finite (reach_to x g free l))
    → Somewhere l x g free (reach_to x g free l)
gets_somewhere l x g free f d h =
    let c = least x g free l h in
    let p = c.place in
    let holds = both (is_set free p) (not (eq (at g p) plus_zero)) c.passes in
    let u : is_set free p ≡ true = holds.0 in
    let free_there : Free (at x p) (at g p) = record {
      held = f.held p c.within u;
      inside = f.inside p c.within u;
      g_held = (d.each p c.within).held;
      g_ends = (d.each p c.within).ends;
      g_some = subst T (sym holds.1) tt;
      q_ends = subst (λ (q : Float). T (finite q)) (sym c.is) h;
    } in
    let there = clamp_keeps (led_to (at x p) (at g p)) (reaches free_there).reached in
    let led : Float → Float = λ q. clamped (add binary64 (at x p) (mul binary64 q (at g p))) in
    record {
      place = p;
      within = c.within;
      was_free = u;
      freezes-now =
          subst (λ (b : Bool). T (le freeze_limit (abs_of (pick b (led (reach_to x g free l)) (at x p))))) (sym u)
          (subst (λ (q : Float). T (le freeze_limit (abs_of (led q)))) c.is there);
    }

-- ---- after a step each free coordinate is a finite double again

-- a finite value and a number have a number as sum
sum_number : {x y : Float} → Finite binary64 x → Number binary64 y → Number binary64 (add binary64 x y)
sum_number {x} {y} p q = record { held = add-fits binary64 x y; num = go x y p.held p.ends q.held q.num }
  where
    go : (x y : Float) → T (fits binary64 x) → T (finite x) → T (fits binary64 y) → T (is_num y) → T (is_num (add binary64 x y))
    go nan y h t k u = absurd t
    go (inf s) y h t k u = absurd t
    go (fin s m e) nan h t k u = absurd u
    go (fin s m e) (inf r) h t k u = unfold add in tt
    go (fin s m e) (fin r n d) h t k u =
        (add_rounded {f = binary64} {x = fin s m e} {y = fin r n d} (record { held = h; ends = tt }) (record { held = k; ends = tt })).number

one-finite : (s : Bool) → Finite binary64 (fin s 1 (pos 0))
one-finite s = record { held = unfold fits in tt; ends = tt }

clamp_finite : {y : Float} → Number binary64 y → Finite binary64 (clamped y)
clamp_finite {y} p = go y p.held p.num
  where
    either : (b c : Bool) {y : Float} → Finite binary64 y → Finite binary64 (pick b (fin true 1 (pos 0)) (pick c (fin false 1 (pos 0)) y))
    either true c h = one-finite true
    either false true h = one-finite false
    either false false h = h

    go : (y : Float) → T (fits binary64 y) → T (is_num y) → Finite binary64 (clamped y)
    go nan h t = absurd t
    go (inf true) h t = unfold clamp_of lt of_bits in one-finite true
    go (inf false) h t = unfold clamp_of lt of_bits in one-finite false
    go (fin s m e) h t =
        unfold clamp_of of_bits in either (lt (fin s m e) (fin true 1 (pos 0))) (lt (fin false 1 (pos 0)) (fin s m e)) (record { held = h; ends = tt })

pub stays_finite : {x q g : Float} → Finite binary64 x → Finite binary64 q → Finite binary64 g → Finite binary64 (clamped (add binary64 x (mul binary64 q g)))
stays_finite {x} {q} {g} p r s = clamp_finite (sum_number p (record { held = mul-fits binary64 q g; num = (mul-units r s).number }))

limit_number : Number binary64 freeze_limit
unfolding sub add neg of_bits fits
limit_number = record { held = tt; num = tt }

-- what does not freeze is below the limit
pub stays_inside : {y : Float} → Finite binary64 y → le freeze_limit (abs_of y) ≡ false → T (lt (abs_of y) freeze_limit)
stays_inside {y} p h = subst T (sym (lt_not_le (abs_size (finite_number p)).number limit_number)) (subst (λ (b : Bool). T (not b)) (sym h) tt)
