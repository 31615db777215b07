-- The magnitudes have the order of the changes; and the index has each row once.
use Prim.Native.Nat.{ℕ, ◌<◌}
use mathlib.Core.Path.{◌≡◌, refl, sym, subst, ap, ◌∙◌}
use mathlib.Core.Bool.{Bool, true, false}
use mathlib.Core.List.{List, [], ◌∷◌}
use native.Mathlib.Omega.{arith}
use native.Mathlib.Decide.{dec_lt}
use lib.Dec.{T, ltb}
use lib.ListN.{length, get_or, get_or-eq_default}
use lib.Ieee.{Float, nan, inf, fin, lt, is_nan, binary64, fits}
use Rattle.seq.specs.Choice.{pick}
use Rattle.seq.specs.Lists.{tabulate}
use Rattle.seq.specs.Sort.{sorted}
use Rattle.seq.specs.Sums.{at}
use Rattle.seq.proofs.Filling.{length-tab, get_or-tab}
use Rattle.seq.proofs.Sorting.{length-sorted}
use Rattle.ieee.specs.Magnitude.{abs_of, above_of}
use Rattle.ieee.specs.Units.{is_num}
use Rattle.arranged.specs.Arranged.{occurs, Order, InOrder, Arranged, EachOnce}
use Rattle.ranking.specs.Ranking.{heavier}
use Rattle.marking.specs.Moved.{moved_rows, Numbers}
use Rattle.ahead.specs.Sizes.{Sizes, sizes_of}
use Rattle.arranged.proofs.Heights.{heavier_order}
use Rattle.arranged.proofs.Inserting.{arranged_is, sorted_same, sorted_order}
use Rattle.arranged.proofs.Ordered.{already}
use Rattle.arranged.proofs.Once.{up-below}
use Rattle.arranged.proofs.Occurrences.{leads_cons}

pub length-sizes : (w : List Float) → length (sizes_of w) ≡ length w
unfolding sizes_of
length-sizes w = length-tab (λ i. abs_of (at w i)) (length w)

sizes-at : (w : List Float) (i : ℕ) → at (sizes_of w) i ≡ abs_of (at w i)
unfolding sizes_of
sizes-at w i = go (dec_lt i (length w))
  where
    go : Dec (i < length w) → at (tabulate (λ j. abs_of (at w j)) (length w)) i ≡ abs_of (at w i)
    go (yes l) = get_or-tab (λ j. abs_of (at w j)) (length w) i nan l
    go (no l) =
        get_or-eq_default (tabulate (λ j. abs_of (at w j)) (length w)) nan {n = i} (omega (arith, length-tab (λ j. abs_of (at w j)) (length w)))
        ∙ ap abs_of (sym (get_or-eq_default w nan {n = i} (omega arith)))

pub abs_again : (x : Float) → abs_of (abs_of x) ≡ abs_of x
abs_again nan = refl
abs_again (inf s) = refl
abs_again (fin s m e) = refl

pub abs_num : (x : Float) → T (is_num x) → T (is_num (abs_of x))
abs_num nan h = h
abs_num (inf s) h = tt
abs_num (fin s m e) h = tt

pub above_abs : (a b : Float) → above_of (abs_of a) (abs_of b) ≡ above_of a b
unfolding above_of is_nan
above_abs nan nan = refl
above_abs nan (inf s) = refl
above_abs nan (fin s m e) = refl
above_abs (inf s) b = ap (λ x. lt x (inf false)) (abs_again b)
above_abs (fin s m e) b = ap (λ x. lt x (fin false m e)) (abs_again b)

pub sizes-good : {w : List Float} {v : List Float} → Numbers w → v ≡ sizes_of w → Sizes v
sizes-good {w} {v} n e =
    subst Sizes (sym e)
    (record {
      plain = λ i h. ap abs_of (sizes-at w i) ∙ abs_again (at w i) ∙ sym (sizes-at w i);
      num = λ i h. subst (λ x. T (is_num x)) (sym (sizes-at w i)) (abs_num (at w i) (n.num i (omega (arith, length-sizes w))));
    })

heavier-sizes : (w : List Float) → heavier (sizes_of w) ≡ heavier w
unfolding heavier
heavier-sizes w = λ i x y. pick (above x y i) true (pick (above y x i) false (ltb x y))
  where
    above : (x y : ℕ) → above_of (at (sizes_of w) x) (at (sizes_of w) y) ≡ above_of (at w x) (at w y)
    above x y = (λ i. above_of (sizes-at w x i) (sizes-at w y i)) ∙ above_abs (at w x) (at w y)

-- a list of each row once, in order, is the answer
pub answer : (w : List Float) {xs ys : List ℕ} → ((i : ℕ) → T (fits binary64 (at w i))) → EachOnce (length w) xs → Arranged (heavier w) xs ys → ys ≡ moved_rows w
unfolding moved_rows
answer w {xs} {ys} g o a = arranged_is (heavier w) (heavier_order w g) (length w) xs ys o a

-- the rows by the magnitudes are the rows by the changes
pub moved-sizes : (w : List Float) → moved_rows (sizes_of w) ≡ moved_rows w
unfolding moved_rows
moved-sizes w = λ i. sorted (heavier-sizes w i) (λ k. k) (length-sizes w i)

pub moved-once : (w : List Float) → EachOnce (length w) (moved_rows w)
unfolding moved_rows
moved-once w = record { often = sorted_same (heavier w) (λ i. i) (length w) }

pub length_moved : (w : List Float) → length (moved_rows w) ≡ length w
unfolding moved_rows
length_moved w = length-sorted (heavier w) (λ i. i) (length w)

-- ---- the index by what it is: each row once, and none before one that stands earlier; and no other list is that
pub moved_order : (w : List Float) → ((i : ℕ) → T (fits binary64 (at w i))) → InOrder (heavier w) (moved_rows w)
unfolding moved_rows
moved_order w g = sorted_order (heavier w) (heavier_order w g) (λ i. i) (length w)

pub only-moved : (w : List Float) → ((i : ℕ) → T (fits binary64 (at w i))) → (xs : List ℕ) → EachOnce (length w) xs → InOrder (heavier w) xs → xs ≡ moved_rows w
unfolding moved_rows
only-moved w g xs e p = arranged_is (heavier w) (heavier_order w g) (length w) xs xs e (already p)

-- ---- no row's change stands above that of the first
none_before : (b : ℕ → ℕ → Bool) → Order b → (xs : List ℕ) → InOrder b xs → (x : ℕ) → 0 < occurs x xs → b x (get_or xs 0 0) ≡ false
none_before b o [] p x h = unfold occurs in absurd (omega arith)
none_before b o (y ∷ ys) p x h = leads_cons b y y ys (never (b y y) (o.one y y) refl) p.0 x h
  where
    never : (t : Bool) → (t ≡ true → b y y ≡ false) → t ≡ b y y → b y y ≡ false
    never true f e = f refl
    never false f e = sym e

pub first_highest : (w : List Float) → ((i : ℕ) → T (fits binary64 (at w i))) → (x : ℕ) → x < length w → above_of (at w x)
    (at w (get_or (moved_rows w) 0 0)) ≡ false
unfolding heavier
first_highest w g x h =
    let f = get_or (moved_rows w) 0 0 in
    not_above (above_of (at w x) (at w f)) (pick (above_of (at w f) (at w x)) false (ltb x f))
    (none_before (heavier w) (heavier_order w g) (moved_rows w) (moved_order w g) x (omega (arith, (moved-once w).often x, up-below (length w) x h)))
  where
    not_above : (t u : Bool) → pick t true u ≡ false → t ≡ false
    not_above true u e = e
    not_above false u e = refl
