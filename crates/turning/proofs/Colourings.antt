-- The sign of a row, and the zero that a sum starts from, alter no colour: until the walk ends they can alter only signs that decide nothing, and at
-- the end no coordinate is a zero. Local search then flips the same colours.
use Prim.Native.Nat.{ℕ, zero, suc, ◌+◌, ◌<◌}
use mathlib.Core.Path.{◌≡◌, refl, sym, ap, subst}
use mathlib.Core.Logic.{inl, inr}
use mathlib.Core.Bool.{Bool, not}
use mathlib.Core.List.{List}
use lib.Dec.{T, eqb}
use lib.ListN.{length, get_or}
use lib.Seq.{ext_get_or}
use lib.Ieee.{Float, nan, of_bits}
use Rattle.seq.specs.Lists.{repeated}
use Rattle.seq.specs.Sums.{plus_zero, minus_zero, at}
use Rattle.seq.specs.Keep.{keep}
use Rattle.ieee.specs.Flat.{Alike, is_zero}
use Rattle.ieee.proofs.Alikes.{alike_refl, le_alike, pick_alike}
use Rattle.ieee.proofs.Equality.{alike_nonzero}
use Rattle.seq.specs.Marks.{is_set}
use Rattle.ieee.specs.Constants.{one, minus_one}
use Rattle.chosen.specs.Rows.{times}
use Rattle.begin.specs.Begin.{begun}
use Rattle.walked.specs.Walk.{Course, course_of, free_ones}
use Rattle.places.specs.Places.{chosen, put_back, rounded_at}
use Rattle.phased.specs.Phase.{Between, rounded_off, phased}
use Rattle.colored.specs.Coloring.{settled, walked, coloring_of}
use Rattle.colored.proofs.Marked.{Colour}
use Rattle.colored.proofs.Colours.{Coloured, walk_colours}
use Rattle.draw.specs.declared.SplitMix64.{SplitMix64}
use Rattle.turning.proofs.Signed.{Facing, facing, zero_facing}
use Rattle.turning.proofs.Pairs.{each_at, each_set, each_tab, each_tabs, pick-both, run-both}
use Rattle.turning.proofs.Walks.{Along, AlikeList, AlikeCourse, at_alike, same_list, begun_alike, course_alike, times_alike}
use Rattle.turning.proofs.Searches.{searched_same}

-- equal but for signs that decide nothing
record AlikeBetween (turns : ℕ → Bool) (b b' : Between) : Type 0 where
  pub x : AlikeList b.x b'.x
  pub free : b.free ≡ b'.free
  pub ax : Along turns b.ax b'.ax
  pub rng : b.rng ≡ b'.rng
  pub directions : b.directions ≡ b'.directions

-- ---- what adds nothing up

chosen_alike : {v v' : List Float} (places : List ℕ) → AlikeList v v' → AlikeList (chosen v places) (chosen v' places)
chosen_alike {v} {v'} places p =
    each_tab (λ i. at v (get_or places i 0)) (λ i. at v' (get_or places i 0)) (length places) (λ i. facing (at_alike p (get_or places i 0)))

back_alike : {values values' v v' : List Float} (places : List ℕ) → AlikeList values values' → AlikeList v v' → (k : ℕ)
    → AlikeList (put_back plus_zero places values v k) (put_back plus_zero places values' v' k)
unfolding put_back
back_alike places p q zero = q
back_alike places p q (suc k) = each_set (back_alike places p q k) (get_or places k 0) (each_at plus_zero (λ i. facing (alike_refl plus_zero)) p k)

rounded_alike : {turns : ℕ → Bool} {b b' : Between} → AlikeBetween turns b b' → AlikeBetween turns (rounded_off b) (rounded_off b')
rounded_alike {b} {b'} r =
    record {
      x = each_tabs (rounded_at b.x b.free) (rounded_at b'.x b'.free) r.x.long
          (λ j. facing (pick_alike {t = is_set b.free j} {t' = is_set b'.free j} (ap (λ (free : List ℕ). is_set free j) r.free)
          (pick_alike (le_alike (alike_refl plus_zero) (at_alike r.x j)) (alike_refl one) (alike_refl minus_one)) (at_alike r.x j)));
      free = ap (λ (free : List ℕ). repeated 0 (length free)) r.free;
      ax = r.ax;
      rng = r.rng;
      directions = r.directions;
    }

settled_same : {turns : ℕ → Bool} (b b' : Between) → AlikeBetween turns b b' → settled b ≡ settled b'
settled_same b b' r = ap (λ (free : List ℕ). eqb (free_ones free) 0) r.free

-- vectors without a zero that are alike are equal
nonzero_same : {v v' : List Float} → AlikeList v v' → ((j : ℕ) → j < length v → T (not (is_zero (at v j)))) → v ≡ v'
nonzero_same {v} {v'} p h = ext_get_or nan v v' p.long (λ j l. alike_nonzero (at_alike p j) (h j l))

colour_nonzero : (x : Float) → Colour x → T (not (is_zero x))
unfolding of_bits
colour_nonzero x (inl e) = subst (λ (y : Float). T (not (is_zero y))) (sym e) tt
colour_nonzero x (inr e) = subst (λ (y : Float). T (not (is_zero y))) (sym e) tt

-- ---- the walk, with sums from a zero z and from +0.0, on two matrices that are alike once their turned rows are negated

module _ (z : Float) (start : Alike z plus_zero) (turns : ℕ → Bool) (a a' : ℕ → ℕ → Float)
    (same : (p i : ℕ) → Facing (turns i) (a p i) (a' p i)) (k n : ℕ) where
  -- a phase on the same free columns
  inside_alike : {x x' ax ax' : List Float} (free : List ℕ) (rng : SplitMix64) (directions : ℕ) → AlikeList x x' → Along turns ax ax'
      → AlikeBetween turns (phased z a k n (record { x = x; free = free; ax = ax; rng = rng; directions = directions }))
      (phased plus_zero a' k n (record { x = x'; free = free; ax = ax'; rng = rng; directions = directions }))
  unfolding phased
  inside_alike {x} {x'} {ax} {ax'} free rng directions p q =
      let phase : List ℕ = keep (is_set free) k in
      let l : ℕ = length phase in
      let inside : ℕ → ℕ → Float = λ p. a (get_or phase p 0) in
      let inside' : ℕ → ℕ → Float = λ p. a' (get_or phase p 0) in
      let alike : (p i : ℕ) → Facing (turns i) (inside p i) (inside' p i) = λ p. same (get_or phase p 0) in
      let c : Course = course_of z inside l n (begun z inside l n (chosen x phase) ax rng) in
      let c' : Course = course_of plus_zero inside' l n (begun plus_zero inside' l n (chosen x' phase) ax' rng) in
      let r : AlikeCourse turns c c' = course_alike z start turns inside inside' alike l n
      (begun_alike z start turns inside inside' alike l n rng (chosen_alike phase p) q) in
      let after : Between = record {
        x = put_back plus_zero phase c.walk.x x l;
        free = put_back 0 phase c.walk.free free l;
        ax = c.walk.ax;
        rng = c.walk.rng;
        directions = directions + c.directions;
      } in
      let after' : Between = record {
        x = put_back plus_zero phase c'.walk.x x' l;
        free = put_back 0 phase c'.walk.free free l;
        ax = c'.walk.ax;
        rng = c'.walk.rng;
        directions = directions + c'.directions;
      } in
      let s : AlikeBetween turns after after' = record {
        x = back_alike phase r.walk.x p l;
        free = ap (λ (values : List ℕ). put_back 0 phase values free l) r.walk.free;
        ax = r.walk.ax;
        rng = r.walk.rng;
        directions = ap (λ (d : ℕ). directions + d) r.directions;
      } in
      pick-both (AlikeBetween turns) (ap (λ (m : ℕ). eqb m 0) r.walk.frozen) (λ _. rounded_alike s) s

  phased_alike : (b b' : Between) → AlikeBetween turns b b' → AlikeBetween turns (phased z a k n b) (phased plus_zero a' k n b')
  phased_alike b b' r = rw (r.free, r.rng, r.directions) (inside_alike b'.free b'.rng b'.directions r.x r.ax)

  walked_alike : (rng : SplitMix64) → AlikeBetween turns (walked z a k n rng) (walked plus_zero a' k n rng)
  unfolding walked
  walked_alike rng =
      let b : Between = record { x = repeated plus_zero k; free = repeated 1 k; ax = repeated plus_zero n; rng = rng; directions = 0 } in
      run-both (AlikeBetween turns) settled (phased z a k n) (phased plus_zero a' k n) settled_same phased_alike refl b b
      (record {
        x = same_list (repeated plus_zero k);
        free = refl;
        ax = each_tab (λ i. plus_zero) (λ i. plus_zero) n (λ i. zero_facing (turns i) (alike_refl plus_zero));
        rng = refl;
        directions = refl;
      })

  -- ---- the same colours, the same generator after them and the same counts

  module _ (rng : SplitMix64) where
    walked_same : (walked z a k n rng).x ≡ (walked plus_zero a' k n rng).x
    walked_same =
        let c : Coloured k (walked z a k n rng).x = walk_colours z a k n rng in
        nonzero_same (walked_alike rng).x (λ j h. colour_nonzero (at (walked z a k n rng).x j) (c.each j (rw c.long at h)))

    pub coloring_same : coloring_of z a k n rng ≡ coloring_of plus_zero a' k n rng
    unfolding coloring_of
    coloring_same =
        let x : List Float = (walked plus_zero a' k n rng).x in
        rw (
          walked_same,
          (walked_alike rng).rng,
          (walked_alike rng).directions,
          searched_same turns a a' same k x (times_alike plus_zero (alike_refl plus_zero) turns a a' same k n (same_list x)),
        )
