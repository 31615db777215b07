-- Laws of a step's pieces: lengths, A g beside A x, both turned downhill, and the move along them.
use Prim.Native.Nat.{ℕ, ◌+◌, ◌≤◌}
use mathlib.Core.Path.{◌≡◌, refl, sym, ap, ap₂, ◌∙◌}
use mathlib.Core.Bool.{Bool, true, false}
use mathlib.Core.List.{List, ◌++◌}
use native.Mathlib.Omega.{arith}
use native.Mathlib.Nat.{zero-add}
use lib.ListN.{length, take, drop, length-append}
use lib.Seq.{take_at, drop_at, take_all, take-append-le}
use lib.Ieee.{Float, lt}
use lib.Ieee.Scale.{finite}
use Rattle.seq.specs.Lists.{part, placed}
use Rattle.seq.specs.Sums.{plus_zero}
use Rattle.seq.proofs.Filling.{length-tab}
use Rattle.seq.proofs.Parts.{length_part, length-placed, part_same, part-below, part-add}
use Rattle.linear.specs.Vectors.{dot_of}
use Rattle.basis.proofs.Bases.{length-projected}
use Rattle.chosen.specs.Rows.{times}
use Rattle.direction.specs.Direction.{zeroed, directed, uphill, turned}
use Rattle.direction.specs.Step.{reach_to, moved, along}
use Rattle.advance.specs.Advancing.{uphill_in, reach_in, Downhill, Advanced}
use Rattle.blocking.proofs.Scratch.{drop-placed}

-- ---- lengths

pub length-turned : (t : Bool) (v : List Float) → length (turned t v) ≡ length v
unfolding turned
length-turned t v = length-tab _ (length v)

pub length-zeroed : (free : List ℕ) (g : List Float) → length (zeroed free g) ≡ length g
unfolding zeroed
length-zeroed free g = length-tab _ (length g)

pub length-directed : (z : Float) (basis : List (List Float)) (free : List ℕ) (d : List Float) → length (directed z basis free d) ≡ length d
unfolding directed
length-directed z basis free d = length-zeroed free _ ∙ length-projected z basis d

pub length-along : (t : Float) (ax ag : List Float) → length (along t ax ag) ≡ length ax
unfolding along
length-along t ax ag = length-tab _ (length ax)

-- ---- A g beside A x, and both turned; k and m are as many as there are rows

module _ (a : ℕ → ℕ → Float) (rows k m l : ℕ) (numbers g ys zs g' : List Float) (d : Float) where
  abbrev beside : List Float
  beside = placed rows k numbers ys

  pub downhill : k ≡ rows → m ≡ rows → rows + rows ≤ length numbers → length g ≡ l
      → ys ≡ times plus_zero a l (length (part rows k numbers)) g
      → d ≡ dot_of plus_zero (part 0 m beside) (part rows k beside)
      → g' ≡ turned (lt plus_zero d) g
      → zs ≡ turned (lt plus_zero d) (part rows k beside)
      → Downhill a rows numbers g (placed rows k beside zs) g'
  unfolding uphill
  downhill ek em room lg ey ed eg ez =
      let lk : length (part rows k numbers) ≡ k = length_part rows k numbers (omega arith) in
      let ly : length ys ≡ k = ap length ey ∙ length-tab _ (length (part rows k numbers)) ∙ lk in
      let l1 : length beside ≡ length numbers = length-placed rows k numbers ys (omega arith) ly in
      let p1 : part rows k beside ≡ ys = part_same rows k numbers ys (omega arith) ly in
      let b1 : part 0 rows beside ≡ part 0 rows numbers = part-below 0 rows rows k numbers ys (omega arith) (omega arith) in
      let q1 : part 0 m beside ≡ part 0 rows numbers = ap (λ (j : ℕ). part 0 j beside) em ∙ b1 in
      let ag : ys ≡ times plus_zero a (length g) rows g = ey ∙ ap₂ (λ (c r : ℕ). times plus_zero a c r g) (sym lg) (lk ∙ ek) in
      let up : lt plus_zero d ≡ uphill_in a rows numbers g = ap (lt plus_zero) (ed ∙ ap₂ (dot_of plus_zero) q1 (p1 ∙ ag)) in
      let lz : length zs ≡ k = ap length ez ∙ length-turned (lt plus_zero d) (part rows k beside) ∙ length_part rows k beside (omega arith) in
      let end : rows + k ≡ rows + rows = omega arith in
      record {
        direction = eg ∙ ap (λ (t : Bool). turned t g) up;
        ax = part-below 0 rows rows k beside zs (omega arith) (omega arith) ∙ b1;
        ag = ap (λ (j : ℕ). part rows j (placed rows k beside zs)) (sym ek) ∙ part_same rows k beside zs (omega arith) lz ∙ ez ∙ ap₂ turned up (p1 ∙ ag);
        rest = ap (λ (j : ℕ). drop j (placed rows k beside zs)) (sym end) ∙ drop-placed rows k beside zs (omega arith) lz
            ∙ drop-placed rows k numbers ys (omega arith) ly ∙ ap (λ (j : ℕ). drop j numbers) end;
      }

-- ---- the move

module _ (a : ℕ → ℕ → Float) (rows : ℕ) (numbers x : List Float) (free : List ℕ) (g num1 g1 : List Float) (t : Float) (down : Downhill a rows numbers g num1 g1)
    (lg : length g ≡ length x) (et : t ≡ reach_to x g1 free (length x)) where
  reach_is : t ≡ reach_in a rows numbers x free g
  reach_is = et ∙ ap₂ (λ (v : List Float) (k : ℕ). reach_to x v free k) down.direction (sym lg)

  pub no_way : (f : Bool) → f ≡ finite t → f ≡ false → Advanced a rows numbers x free g false num1 x
  no_way f ef e =
      record { goes = sym e ∙ ef ∙ ap finite reach_is; moves = refl; ax = down.ax; rest = down.rest }

  pub goes_along : (f : Bool) (k : ℕ) (ys x' : List Float) → f ≡ finite t → f ≡ true → k ≡ rows + rows → rows + rows ≤ length num1
      → x' ≡ moved t x g1 free
      → ys ≡ along t (part 0 rows (part 0 k num1)) (part rows rows (part 0 k num1)) ++ drop rows (part 0 k num1)
      → Advanced a rows numbers x free g true (placed 0 k num1 ys) x'
  goes_along f k ys x' ef e ek room ex ey =
      let p : List Float = part 0 rows num1 in
      let q : List Float = part rows rows num1 in
      let both : part 0 k num1 ≡ p ++ q =
      ap (λ (j : ℕ). part 0 j num1) ek ∙ part-add 0 rows rows num1 ∙ ap (λ (j : ℕ). p ++ part j rows num1) (zero-add rows) in
      let lp : length p ≡ rows = length_part 0 rows num1 (omega arith) in
      let lq : length q ≡ rows = length_part rows rows num1 (omega arith) in
      let back : drop rows (p ++ q) ≡ q = drop_at p q rows lp in
      let fresh : ys ≡ along t p q ++ q =
      ey ∙ ap (λ (b : List Float). along t (part 0 rows b) (part rows rows b) ++ drop rows b) both
      ∙ ap₂ (λ (b c : List Float). along t b (take rows c) ++ c) (take_at p q rows lp) back
      ∙ ap (λ (c : List Float). along t p c ++ q) (take_all rows q (omega arith)) in
      let la : length (along t p q) ≡ rows = length-along t p q ∙ lp in
      let ly : length ys ≡ k = ap length fresh ∙ length-append (along t p q) q ∙ omega arith in
      let end : 0 + k ≡ rows + rows = omega arith in
      record {
        goes = sym e ∙ ef ∙ ap finite reach_is;
        moves = ex ∙ ap₂ (λ (s : Float) (v : List Float). moved s x v free) reach_is down.direction;
        ax = take-append-le rows ys (drop k num1) (omega arith)
            ∙ ap (take rows) fresh ∙ take_at (along t p q) q rows la
            ∙ ap₂ (λ (s : Float) (c : List Float). along s p c) reach_is down.ag
            ∙ ap (λ (c : List Float). along (reach_in a rows numbers x free g) c (turned (uphill_in a rows numbers g) (times plus_zero a (length g) rows g)))
            down.ax;
        rest = ap (λ (j : ℕ). drop j (placed 0 k num1 ys)) (sym end) ∙ drop-placed 0 k num1 ys (omega arith) ly ∙ ap (λ (j : ℕ). drop j num1) end ∙ down.rest;
      }
