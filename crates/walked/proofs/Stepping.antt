-- Laws of a step: its three ways out, each from what the step's pieces leave, give what the definition says.
use Prim.Native.Nat.{ℕ, ◌+◌, ◌*◌, ◌≤◌}
use mathlib.Core.Path.{◌≡◌, refl, sym, ap, ap₂, ◌∙◌}
use mathlib.Core.Bool.{Bool, true, false}
use mathlib.Core.List.{List}
use native.Mathlib.Omega.{arith}
use native.Mathlib.Nat.{mul-le-mul_right}
use lib.Dec.{ltb}
use lib.ListN.{length, drop, length-drop}
use lib.Ieee.{Float}
use lib.Ieee.Scale.{finite}
use Rattle.seq.specs.Choice.{pick}
use Rattle.seq.specs.Lists.{part}
use Rattle.seq.specs.Sums.{plus_zero}
use Rattle.seq.proofs.Filling.{length-tab}
use Rattle.basis.specs.Held.{vectors_in}
use Rattle.chosen.specs.Rows.{times}
use Rattle.direction.specs.Direction.{after_draws, drawn, directed, too_short, uphill, turned}
use Rattle.direction.specs.Step.{reach_to, moved, along}
use Rattle.blocking.specs.Freeze.{Walk, freeze_to}
use Rattle.walked.specs.Walk.{step_of, stepped_along, advanced}
use Rattle.blocking.specs.Held.{ax_in, basis_in, held, Roomy, FreezesAll}
use Rattle.advance.specs.Advancing.{Advanced}
use Rattle.walked.specs.Walking.{StepHolds}
use Rattle.walked.specs.declared.Stand.{Stand}
use Rattle.blocking.proofs.Scratch.{vectors_take, drop-later, walk_path}
use Rattle.advance.proofs.Advancing.{length-directed}
use Rattle.draw.specs.declared.SplitMix64.{SplitMix64}

-- the arm of a choice whose test is known
picked : {w : List Float} (t : Bool) (u v : List Float) → w ≡ pick t u v → t ≡ true → w ≡ u
picked t u v e h = e ∙ ap (λ (t : Bool). pick t u v) h

passed : {w : List Float} (t : Bool) (u v : List Float) → w ≡ pick t u v → t ≡ false → w ≡ v
passed t u v e h = e ∙ ap (λ (t : Bool). pick t u v) h

-- a full basis has room for the count vectors of this one
pub vectors_room : (l : ℕ) (numbers : List Float) (blocked : List ℕ) (x : List Float) (free : List ℕ) (count : ℕ) → Roomy l numbers blocked x free count
    → length blocked + length blocked + length blocked + count * l ≤ length numbers
vectors_room l numbers blocked x free count r = omega (arith, mul-le-mul_right l r.most, r.room)

-- k is as long as the count vectors; the draws are g1, what is left of them g2, and s says that this is too little
module _ (a : ℕ → ℕ → Float) (l : ℕ) (numbers : List Float) (blocked : List ℕ) (x : List Float) (free : List ℕ)
    (count frozen : ℕ) (rng : SplitMix64) (k : ℕ) (g g1 g2 : List Float) (s : Bool)
    (room : Roomy l numbers blocked x free count) (ek : k ≡ count * l) (lg : length g ≡ l) (eg : g1 ≡ drawn rng (length g))
    (e2 : g2 ≡ directed plus_zero (vectors_in l count (part (length blocked + length blocked + length blocked) k numbers)) free g1)
    (es : s ≡ too_short plus_zero g1 (directed plus_zero (vectors_in l count (part (length blocked + length blocked + length blocked) k numbers)) free g1)) where
  abbrev n : ℕ
  n = length blocked

  abbrev base : ℕ
  base = n + n + n

  abbrev w : Walk
  w = held numbers blocked x free count frozen rng

  abbrev way : List Float
  way = directed plus_zero w.basis free (drawn rng l)

  basis_is : vectors_in l count (part base k numbers) ≡ w.basis
  basis_is =
      ap (λ (j : ℕ). vectors_in l count (part base j numbers)) ek
      ∙ vectors_take l count (count * l) (drop base numbers) (omega arith) (simp length-drop (omega (arith, vectors_room l numbers blocked x free count room)))
      ∙ ap (λ (j : ℕ). vectors_in j count (drop base numbers)) (sym room.wide)

  draws_are : g1 ≡ drawn rng l
  draws_are = eg ∙ ap (drawn rng) lg

  way_is : g2 ≡ way
  way_is = e2 ∙ ap₂ (λ (b : List (List Float)) (d : List Float). directed plus_zero b free d) basis_is draws_are

  short_is : s ≡ too_short plus_zero (drawn rng l) way
  short_is = es ∙ ap₂ (λ (b : List (List Float)) (d : List Float). too_short plus_zero d (directed plus_zero b free d)) basis_is draws_are

  way_long : length g2 ≡ l
  way_long = ap length way_is ∙ length-directed plus_zero w.basis free (drawn rng l) ∙ length-tab _ l

  -- too little is left of the direction
  pub stops_short : (o : Stand) → s ≡ true → o.count ≡ count → o.frozen ≡ frozen → o.rng ≡ after_draws rng (length g)
      → StepHolds numbers blocked x free o false (step_of plus_zero a l n w)
  unfolding step_of
  stops_short o e ec ef er =
      let h : too_short plus_zero (drawn rng l) way ≡ true = sym short_is ∙ e in
      record {
        more = rw h;
        walk = rw h (walk_path refl refl ef refl refl (ap (λ (j : ℕ). basis_in n (length x) j numbers) ec) (er ∙ ap (after_draws rng) lg));
      }

  module _ (r : Bool) (numbers1 x1 : List Float) (go : Advanced a n numbers x free g2 r numbers1 x1) (on : s ≡ false) where
    abbrev up_of : ℕ → List Float → Bool
    up_of j v = uphill plus_zero (ax_in n numbers) (times plus_zero a j n v)

    abbrev reach_of : ℕ → List Float → Float
    reach_of j v = reach_to x (turned (up_of j v) v) free j

    long_way : too_short plus_zero (drawn rng l) way ≡ false
    long_way = sym short_is ∙ on

    goes_is : r ≡ finite (reach_of l way)
    goes_is = go.goes ∙ ap₂ (λ (j : ℕ) (v : List Float). finite (reach_of j v)) way_long way_is

    same_basis : length x1 ≡ length x → (c : ℕ) → c ≡ count → basis_in n (length x1) c numbers1 ≡ w.basis
    same_basis lx c ec =
        ap₂ (λ (j i : ℕ). basis_in n j i numbers1) lx ec
        ∙ ap (vectors_in (length x) count) (drop-later (n + n) base numbers numbers1 (omega arith) go.rest)

    -- the step would not be finite
    pub stops_nowhere : (o : Stand) → r ≡ false → o.count ≡ count → o.frozen ≡ frozen → o.rng ≡ after_draws rng (length g)
        → StepHolds numbers1 blocked x1 free o false (step_of plus_zero a l n w)
    unfolding step_of stepped_along
    stops_nowhere o e ec ef er =
        let f : finite (reach_of l way) ≡ false = sym goes_is ∙ e in
        let ex : x1 ≡ x = passed r _ _ go.moves e in
        record {
          more = rw (long_way, f);
          walk = rw (long_way, f)
              (walk_path ex refl ef (passed r _ _ go.ax e) refl (same_basis (ap length ex) o.count ec) (er ∙ ap (after_draws rng) lg));
        }

    -- the step is made, and coordinates freeze
    pub moves_on : (o : Stand) (numbers' : List Float) (blocked' : List ℕ) (x' : List Float) (free' : List ℕ) (c f : ℕ) → r ≡ true → length x1 ≡ length x
        → FreezesAll a l numbers1 blocked x1 free count frozen c f numbers' blocked' x' free'
        → o.count ≡ c → o.frozen ≡ f → o.rng ≡ after_draws rng (length g)
        → StepHolds numbers' blocked' x' free' o (ltb frozen f) (step_of plus_zero a l n w)
    unfolding step_of stepped_along
    moves_on o numbers' blocked' x' free' c f e lx h ec ef er =
        let t : finite (reach_of l way) ≡ true = sym goes_is ∙ e in
        let rng' : SplitMix64 = o.rng in
        let next : Walk = advanced l w (reach_of l way) (turned (up_of l way) way) (turned (up_of l way) (times plus_zero a l n way)) in
        let ex : x1 ≡ moved (reach_of l way) x (turned (up_of l way) way) free =
        picked r _ _ go.moves e
        ∙ ap₂ (λ (j : ℕ) (v : List Float). moved (reach_of j v) x (turned (up_of j v) v) free) way_long way_is in
        let ea : ax_in n numbers1 ≡ along (reach_of l way) (ax_in n numbers) (turned (up_of l way) (times plus_zero a l n way)) =
        picked r _ _ go.ax e
        ∙ ap₂ (λ (j : ℕ) (v : List Float). along (reach_of j v) (ax_in n numbers) (turned (up_of j v) (times plus_zero a j n v))) way_long way_is in
        let moved_is : held numbers1 blocked x1 free count frozen rng' ≡ next =
        walk_path ex refl refl ea refl (same_basis lx count refl) (er ∙ ap (after_draws rng) lg) in
        let frozen_is : held numbers' blocked' x' free' c f rng' ≡ freeze_to plus_zero a l n next l = h.holds rng' ∙ ap
        (λ (v : Walk). freeze_to plus_zero a l n v l) moved_is in
        record {
          more = rw (long_way, t) (ap (λ (v : Walk). ltb frozen v.frozen) frozen_is);
          walk = rw (long_way, t) (ap₂ (λ (i j : ℕ). held numbers' blocked' x' free' i j rng') ec ef ∙ frozen_is);
        }

-- the scratch keeps its room while lengths stay
pub roomy_kept : {l : ℕ} {numbers : List Float} {blocked : List ℕ} {x : List Float} {free : List ℕ} {count : ℕ} (numbers' x' : List Float)
    → Roomy l numbers blocked x free count → length numbers' ≡ length numbers → length x' ≡ length x → Roomy l numbers' blocked x' free count
roomy_kept numbers' x' r ln lx = record { room = omega (arith, ln, r.room); wide = lx ∙ r.wide; marks = r.marks; most = r.most }
