-- The walk's own projection and insertion, as linear defines them: a basis stays short vector by short vector, and what is projected on it no longer.
use mathlib.Core.Path.{◌≡◌, refl, sym, ap, ◌∙◌, subst}
use mathlib.Core.Logic.{◌⊎◌}
use Prim.Native.Nat.{ℕ, zero, suc, ◌+◌, ◌*◌, ◌^◌, ◌≤◌, ◌<◌}
use native.Mathlib.Nat.{le_refl, le_trans, le_of_eq, mul-le-mul_right}
use native.Mathlib.Decide.{dec_lt}
use native.Mathlib.Omega.{arith}
use borrow.Author.Tests.{ltb-true}
use mathlib.Core.Bool.{Bool, true, false, not, ◌&&◌}
use mathlib.Core.List.{List, [], ◌∷◌, ◌++◌}
use lib.Dec.{T, ltb, lit≤}
use lib.ListN.{length, get_or, length-append, get_or-append}
use lib.Seq.{get_or_at}
use lib.Ieee.{Float, nan, binary64, of_bits, mul, div, sub, eq, le}
use Rattle.seq.specs.Choice.{pick}
use Rattle.seq.specs.Lists.{tabulate}
use Rattle.seq.specs.Sums.{plus_zero, at}
use Rattle.seq.proofs.Choosing.{both, shown}
use Rattle.seq.proofs.Filling.{length-tab, get_or-tab}
use Rattle.ieee.specs.Units.{mag}
use Rattle.ieee.proofs.Ops.{Finite}
use Rattle.root.specs.Root.{sqrt_of}
use Rattle.linear.specs.Vectors.{dot_of, norm_of}
use Rattle.basis.specs.Basis.{less_at, stripped, pass_to, projected, drop_tolerance, taken, over_at, unit, inserted}
use Rattle.bounded.proofs.Within.{Within, K, Kind, drawn, row, bits, grain, Vec}
use Rattle.bounded.proofs.Dot.{dot}
use Rattle.bounded.proofs.Squares.{sq, total_ge, total-most, root_le, squared}
use Rattle.bounded.proofs.Project.{sizes, squares, Short, strip}
use Rattle.bounded.proofs.Project as project
use Rattle.bounded.proofs.Norm.{total-le}
use Rattle.bounded.proofs.Taken.{Spot, Blank, taken_short}

-- ---- vectors as lists

-- l finite entries whose squares sum to at most m grains
pub record Long (w : Kind) (l m : ℕ) (v : List Float) : Type 0 where
  pub wide : length v ≡ l
  pub ends : (j : ℕ) → j < l → Finite binary64 (at v j)
  pub most : squares (at v) l ≤ m * grain w

square-drawn : (X k : ℕ) → X ≤ 2 ^ 16 * (4 * (k * k)) → X ≤ 2 ^ 9 * k * (2 ^ 9 * k)
square-drawn X k h = omega arith

square_row : (X k : ℕ) → X ≤ 2 ^ 16 * (2 ^ 64 * (k * k)) → X ≤ 2 ^ 40 * k * (2 ^ 40 * k)
square_row X k h = omega arith

-- at most 2 ^ 16 grains leave each entry within its kind's bound
entry-most : (w : Kind) (X : ℕ) → X * X ≤ 2 ^ 16 * grain w → X ≤ 2 ^ (1074 + bits w)
entry-most drawn X h = le_trans (root_le X (2 ^ 9 * K) (square-drawn (X * X) K h)) (lit≤ tt)
entry-most row X h = le_trans (root_le X (2 ^ 40 * K) (square_row (X * X) K h)) (lit≤ tt)

pub long_vec : (w : Kind) {l m : ℕ} {v : List Float} → m ≤ 2 ^ 16 → Long w l m v → Vec (bits w) l (at v)
long_vec w {l} {m} {v} h p = record {
  each = λ j i. record {
    ends = p.ends j i;
    most = entry-most w (mag binary64 (at v j)) (le_trans (total_ge (sq (sizes (at v))) l j i) (le_trans p.most (mul-le-mul_right (grain w) h)));
  };
}

-- l entries of at most M units each
pub entries_long : (w : Kind) {l : ℕ} {v : List Float} (m X : ℕ) → l ≤ 256 → 256 * X ≤ m * grain w → length v ≡ l → ((j : ℕ) → j < l → Finite binary64 (at v j))
    → ((j : ℕ) → j < l → sq (sizes (at v)) j ≤ X) → Long w l m v
entries_long w {l} {v} m X h g wide ends each = record {
  wide = wide;
  ends = ends;
  most = le_trans (total-most (sq (sizes (at v))) l X each) (le_trans (mul-le-mul_right X h) g);
}

squares_same : (a b : ℕ → Float) (k : ℕ) → ((j : ℕ) → j < k → a j ≡ b j) → squares a k ≤ squares b k
squares_same a b k e = total-le (sq (sizes a)) (sq (sizes b)) k (λ j l. le_of_eq (ap (λ (x : Float). mag binary64 x * mag binary64 x) (e j l)))

short_same : {k : ℕ} {a b : ℕ → Float} → ((j : ℕ) → j < k → a j ≡ b j) → Short k b → Short k a
short_same {k} {a} {b} e p = record {
  entries_in = record { each = λ j l. subst (λ (x : Float). Within binary64 (2 ^ 1075) x) (sym (e j l)) (p.entries_in.each j l) };
  length_in = le_trans (squares_same a b k e) p.length_in;
}

-- ---- projection

-- a vector of the basis: l entries, at most about as long as 1
pub record Unit (l : ℕ) (q : List Float) : Type 0 where
  pub wide : length q ≡ l
  pub short : Short l (at q)

pub dot_is : {l : ℕ} (q v : List Float) → length q ≡ l → dot_of plus_zero q v ≡ dot (at q) (at v) l
unfolding dot_of of_bits
dot_is q v e = rw e

pub norm_is : {l : ℕ} (v : List Float) → length v ≡ l → norm_of plus_zero v ≡ sqrt_of (dot (at v) (at v) l)
unfolding norm_of
norm_is v e = ap sqrt_of (dot_is v v e)

one_more : (a s m k : ℕ) → a ≤ s + k → s ≤ m * k → a ≤ suc m * k
one_more a s m k h l = omega arith

-- one projection adds a grain
pub strip_long : (w : Kind) {l m : ℕ} {q v : List Float} → l ≤ 256 → m ≤ 2 ^ 16 → Unit l q → Long w l m v → Long w l (suc m) (stripped plus_zero q v)
unfolding stripped
strip_long w {l} {m} {q} {v} h g p r =
    let s = project.stripped w l (at q) (at v) h p.short (long_vec w g r) in
    let is : (j : ℕ) → j < l → at (tabulate (less_at (dot_of plus_zero q v) q v) (length v)) j ≡ strip l (at q) (at v) j =
    λ j i. get_or-tab (less_at (dot_of plus_zero q v) q v) (length v) j nan (subst (λ (n : ℕ). j < n) (sym r.wide) i) ∙ ap
    (λ (c : Float). sub binary64 (at v j) (mul binary64 c (at q j))) (dot_is q v p.wide) in
    record {
      wide = length-tab (less_at (dot_of plus_zero q v) q v) (length v) ∙ r.wide;
      ends = λ j i. subst (Finite binary64) (sym (is j i)) (s.ends j i);
      most = le_trans (squares_same (at (tabulate (less_at (dot_of plus_zero q v) q v) (length v))) (strip l (at q) (at v)) l is)
          (one_more (squares (strip l (at q) (at v)) l) (squares (at v) l) m (grain w) s.grown r.most);
    }

-- at most l vectors, each a unit
pub record Basis (l : ℕ) (basis : List (List Float)) : Type 0 where
  pub few : length basis ≤ l
  pub each : (i : ℕ) → i < length basis → Unit l (get_or basis i [])

pub pass_long : (w : Kind) {l m : ℕ} {basis : List (List Float)} {v : List Float} (k : ℕ) → l ≤ 256 → k ≤ length basis → m + k ≤ 2 ^ 16
    → Basis l basis → Long w l m v
    → Long w l (m + k) (pass_to plus_zero basis v k)
unfolding pass_to
pass_long w {l} {m} {basis} {v} zero h g r p s = subst (λ (n : ℕ). Long w l n v) (let e : m ≡ m + 0 = omega arith in e) s
pass_long w {l} {m} {basis} {v} (suc k) h g r p s =
    subst (λ (n : ℕ). Long w l n (stripped plus_zero (get_or basis k []) (pass_to plus_zero basis v k))) (let e : suc (m + k) ≡ m + suc k = omega arith in e)
    (strip_long w h (let q : m + k ≤ 2 ^ 16 = omega arith in q) (p.each k g)
    (pass_long w k h (let q : k ≤ length basis = omega arith in q) (let q : m + k ≤ 2 ^ 16 = omega arith in q) p s))

-- both passes add 512 grains at most
pub projected_long : (w : Kind) {l m : ℕ} {basis : List (List Float)} {v : List Float} → l ≤ 256 → m + 512 ≤ 2 ^ 16 → Basis l basis → Long w l m v
    → Long w l (m + 512) (projected plus_zero basis v)
unfolding projected
projected_long w {l} {m} {basis} {v} h g p s =
    let n = length basis in
    let few = p.few in
    let r = pass_long w n h (le_refl n) (let q : m + n + n ≤ 2 ^ 16 = omega arith in q) p
    (pass_long w n h (le_refl n) (let q : m + n ≤ 2 ^ 16 = omega arith in q) p s) in
    record { wide = r.wide; ends = r.ends; most = le_trans r.most (mul-le-mul_right (grain w) (let q : m + n + n ≤ m + 512 = omega arith in q)) }

-- ---- insertion

-- a row: l entries of at most 2 ^ 32, all 0 or one of them at least 2 ^ -480
pub record Row (l : ℕ) (v : List Float) : Type 0 where
  pub wide : length v ≡ l
  pub each : (j : ℕ) → j < l → Within binary64 (2 ^ 1106) (at v j)
  pub clear : Spot l (at v) ⊎ Blank l (at v)

row_square : (X k : ℕ) → X ≤ 2 ^ 32 * k * (2 ^ 32 * k) → X ≤ 2 ^ 64 * (k * k)
row_square X k h = omega arith

pub row_long : {l : ℕ} {v : List Float} → l ≤ 256 → Row l v → Long row l 256 v
row_long {l} {v} h p = entries_long row 256 (2 ^ 64 * (K * K)) h (lit≤ tt) p.wide (λ j i. (p.each j i).ends)
    (λ j i. row_square (sq (sizes (at v)) j) K (squared (mag binary64 (at v j)) (2 ^ 32 * K) (le_trans (p.each j i).most (lit≤ tt))))

-- what is left of a row that the basis takes, over its norm, is a unit
pub taken-unit : {l : ℕ} {basis : List (List Float)} {v : List Float} → l ≤ 256 → Basis l basis → Row l v → taken plus_zero basis v ≡ true
    → Unit l (unit plus_zero (projected plus_zero basis v))
unfolding taken unit
taken-unit {l} {basis} {v} h p r t =
    let w = projected plus_zero basis v in
    let s = projected_long row h (lit≤ tt) p (row_long h r) in
    let b = both (not (eq (norm_of plus_zero v) plus_zero)) (not (le (norm_of plus_zero w) (mul binary64 drop_tolerance (norm_of plus_zero v)))) t in
    let some : T (not (eq (sqrt_of (dot (at v) (at v) l)) plus_zero)) =
    subst (λ (x : Float). T (not (eq x plus_zero))) (norm_is v r.wide) (shown (not (eq (norm_of plus_zero v) plus_zero)) b.0) in
    let more : T (not (le (sqrt_of (dot (at w) (at w) l)) (mul binary64 drop_tolerance (sqrt_of (dot (at v) (at v) l))))) =
    subst (λ (x : Float). T (not (le x (mul binary64 drop_tolerance (sqrt_of (dot (at v) (at v) l)))))) (norm_is w s.wide)
    (subst (λ (x : Float). T (not (le (norm_of plus_zero w) (mul binary64 drop_tolerance x)))) (norm_is v r.wide)
    (shown (not (le (norm_of plus_zero w) (mul binary64 drop_tolerance (norm_of plus_zero v)))) b.1)) in
    record {
      wide = length-tab (over_at (norm_of plus_zero w) w) (length w) ∙ s.wide;
      short = short_same
          (λ j i. get_or-tab (over_at (norm_of plus_zero w) w) (length w) j nan (subst (λ (n : ℕ). j < n) (sym s.wide) i) ∙ ap
          (λ (n : Float). div binary64 (at w j) n) (norm_is w s.wide))
          (taken_short l (at v) (at w) h r.each r.clear (long_vec row (lit≤ tt) s) some more);
    }

-- one vector more
pub longer : (basis : List (List Float)) (q : List Float) → length (basis ++ (q ∷ [])) ≡ suc (length basis)
longer basis q = length-append basis (q ∷ []) ∙ (let e : length basis + 1 ≡ suc (length basis) = omega arith in e)

pub pushed : (P : List Float → Type 0) (basis : List (List Float)) (q : List Float) → ((i : ℕ) → i < length basis → P (get_or basis i [])) → P q
    → (i : ℕ) → i < length (basis ++ (q ∷ [])) → P (get_or (basis ++ (q ∷ [])) i [])
pushed P basis q each last i h = go (dec_lt i (length basis)) (subst (λ (n : ℕ). i < n) (longer basis q) h)
  where
    go : Dec (i < length basis) → i < suc (length basis) → P (get_or (basis ++ (q ∷ [])) i [])
    go (yes g) k = subst P (sym (get_or-append basis (q ∷ []) [] i g)) (each i g)
    go (no g) k =
        let e : i ≡ length basis = omega arith in
        subst P (sym (get_or_at basis q [] [] i (sym e))) last

pub inserted-keeps : {l : ℕ} {basis : List (List Float)} {v : List Float} → l ≤ 256 → Basis l basis → Row l v → Basis l (inserted plus_zero l basis v)
unfolding inserted
inserted-keeps {l} {basis} {v} h p r = go (ltb (length basis) l && taken plus_zero basis v) refl
  where
    go : (t : Bool) → (ltb (length basis) l && taken plus_zero basis v) ≡ t → Basis l (pick t (basis ++ (unit plus_zero (projected plus_zero basis v) ∷ [])) basis)
    go true e =
        let b = both (ltb (length basis) l) (taken plus_zero basis v) e in
        let q : List Float = unit plus_zero (projected plus_zero basis v) in
        record {
          few = le_trans (le_of_eq (longer basis q)) (ltb-true (length basis) l b.0);
          each = pushed (Unit l) basis q p.each
              (taken-unit h p r b.1);
        }
    go false e = p
