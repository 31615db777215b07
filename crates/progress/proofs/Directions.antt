-- A direction that a walk draws is finite: draws of at most 16, projected on the basis and zeroed. On a basis of units each entry is within 2 ^ 9,
-- on one of few vectors within 2 ^ 964.
use mathlib.Core.Path.{◌≡◌, refl, sym, ◌∙◌, subst}
use Prim.Native.Nat.{ℕ, ◌*◌, ◌^◌, ◌≤◌, ◌<◌, zero-le}
use native.Mathlib.Nat.{le_trans, le_of_eq}
use native.Mathlib.Omega.{arith}
use mathlib.Core.Bool.{Bool, true, false}
use mathlib.Core.List.{List}
use lib.IntN.{pos}
use lib.Dec.{T, lit≤}
use lib.ListN.{length}
use lib.Ieee.{Float, nan, fin, binary64, of_bits, le, fits}
use Rattle.seq.specs.Choice.{pick}
use Rattle.seq.specs.Sums.{plus_zero, at}
use Rattle.seq.proofs.Filling.{length-tab, get_or-tab}
use Rattle.ieee.specs.Units.{mag}
use Rattle.ieee.specs.Magnitude.{abs_of}
use Rattle.ieee.proofs.Ranks.{Number, mag→le}
use Rattle.ieee.proofs.Ops.{finite_number}
use Rattle.ieee.proofs.Signs.{nought-finite}
use Rattle.ieee.proofs.Sums.{abs_size, abs_mag}
use Rattle.seq.specs.Marks.{is_set}
use Rattle.draw.proofs.GaussianFinite.{gaussian_small}
use Rattle.direction.specs.Direction.{draw_at, drawn, zeroed_at, zeroed, directed}
use Rattle.bounded.proofs.Within.{Within, K, drawn as draws}
use Rattle.bounded.proofs.Squares.{sq, squared}
use Rattle.bounded.proofs.Project.{sizes}
use Rattle.bounded.proofs.Bases.{Long, long_vec, entries_long, Basis, projected_long}
use Rattle.bounded.proofs.Loose.{Few, Grown, projected-grown}
use Rattle.progress.specs.Original.{Generator}
use Rattle.progress.proofs.Standing.{Direction}

sixteen : (X k : ℕ) → X ≤ 16 * k * (16 * k) → X ≤ 256 * (k * k)
sixteen X k h = omega arith

drawn-at : (rng : Generator) (l p : ℕ) → p < l → at (drawn rng l) p ≡ draw_at rng p
drawn-at rng l p h = get_or-tab (draw_at rng) l p nan h

draw_within : (rng : Generator) (p : ℕ) → Within binary64 (16 * K) (draw_at rng p)
unfolding draw_at
draw_within rng p = let s = gaussian_small _ in record { ends = s.ends; most = s.most }

pub drawn_long : (rng : Generator) (l : ℕ) → l ≤ 256 → Long draws l 16384 (drawn rng l)
drawn_long rng l h =
    let each : (p : ℕ) → p < l → Within binary64 (16 * K) (at (drawn rng l) p) =
    λ p i. subst (Within binary64 (16 * K)) (sym (drawn-at rng l p i)) (draw_within rng p) in
    entries_long draws 16384 (256 * (K * K)) h (lit≤ tt) (length-tab (draw_at rng) l) (λ p i. (each p i).ends)
    (λ p i. sixteen (sq (sizes (at (drawn rng l))) p) K (squared (mag binary64 (at (drawn rng l) p)) (16 * K) (each p i).most))

-- ---- zeroed at the frozen places

-- each entry of g is within a bound of at least 1
pub record Within_all (n l : ℕ) (g : List Float) : Type 0 where
  pub wide : length g ≡ l
  pub each : (p : ℕ) → p < l → Within binary64 n (at g p)

zeroed_within : {n l : ℕ} {g : List Float} (free : List ℕ) → Within_all n l g → Within_all n l (zeroed free g)
unfolding zeroed of_bits
zeroed_within {n} {l} {g} free d = record {
  wide = length-tab (zeroed_at free g) (length g) ∙ d.wide;
  each = λ j i.
      subst (Within binary64 n) (sym (get_or-tab (zeroed_at free g) (length g) j nan (subst (λ (m : ℕ). j < m) (sym d.wide) i)))
      (go (is_set free j) (d.each j i));
}
  where
    go : (t : Bool) {x : Float} → Within binary64 n x → Within binary64 n (pick t x plus_zero)
    go true p = p
    go false p = record { ends = nought-finite binary64 false; most = zero-le }

pub finite_direction : {n l : ℕ} {g : List Float} → Within_all n l g → Direction l g
finite_direction d = record { wide = d.wide; ends = λ p i. (d.each p i).ends }

-- ---- on a basis of units

pub directed_within : {l : ℕ} {basis : List (List Float)} (free : List ℕ) (rng : Generator) → l ≤ 256 → Basis l basis
    → Within_all (2 ^ 1083) l (directed plus_zero basis free (drawn rng l))
unfolding directed
directed_within {l} {basis} free rng h b =
    let p = projected_long draws h (lit≤ tt) b (drawn_long rng l h) in
    zeroed_within free (record { wide = p.wide; each = (long_vec draws (lit≤ tt) p).each })

-- as request R-9 asks it: at most 2 ^ 20
pub directed-most : {l : ℕ} {basis : List (List Float)} (free : List ℕ) (rng : Generator) → l ≤ 256 → Basis l basis
    → (p : ℕ) → p < l → T (le (abs_of (at (directed plus_zero basis free (drawn rng l)) p)) (fin false 1 (pos 20)))
directed-most {l} {basis} free rng h b p i =
    let g = directed plus_zero basis free (drawn rng l) in
    let d = (directed_within free rng h b).each p i in
    let n : Number binary64 (fin false 1 (pos 20)) = record { held = unfold fits in tt; num = tt } in
    let a = abs_size (finite_number d.ends) in
    mag→le a.number n a.plus refl (le_trans (le_of_eq (abs_mag binary64 (at g p))) (le_trans d.most (lit≤ tt)))

-- ---- on a basis of few vectors

pub directed_few : {l : ℕ} {basis : List (List Float)} (free : List ℕ) (rng : Generator) → l ≤ 60 → Few l basis
    → Direction l (directed plus_zero basis free (drawn rng l))
unfolding directed
directed_few {l} {basis} free rng h b =
    let g : Grown l 4 (drawn rng l) = record {
      wide = length-tab (draw_at rng) l;
      each = λ p i.
          let w = draw_within rng p in subst (Within binary64 (2 ^ 1078)) (sym (drawn-at rng l p i))
          (record { ends = w.ends; most = le_trans w.most (lit≤ tt) });
    } in
    let p = projected-grown 4 h (lit≤ tt) b g in
    finite_direction (zeroed_within free (record { wide = p.wide; each = p.each }))
