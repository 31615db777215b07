-- Laws of projection and insertion, and of a basis that stands in a slice.
use Prim.Native.Nat.{ℕ, zero, suc, ◌+◌, ◌*◌, ◌≤◌, ◌<◌}
use mathlib.Core.Path.{◌≡◌, refl, sym, ap, ◌∙◌}
use mathlib.Core.Bool.{Bool, true, false, ◌&&◌}
use mathlib.Core.List.{List, [], ◌∷◌, ◌++◌}
use native.Mathlib.Omega.{arith}
use native.Mathlib.Numerals.{add-one}
use lib.Dec.{ltb}
use borrow.Author.Tests.{ltb-true, lt-ltb}
use lib.ListN.{length, get_or, length-append}
use lib.Ieee.{Float, binary64, eq, le, mul}
use Rattle.seq.specs.Choice.{pick}
use Rattle.seq.specs.Lists.{tabulate, part, placed}
use Rattle.seq.specs.Sums.{plus_zero}
use Rattle.seq.proofs.Filling.{length-tab, get_or-tab, tab_cong, room}
use Rattle.seq.proofs.Parts.{part_same, part-below}
use Rattle.linear.specs.Vectors.{dot_of, norm_of}
use Rattle.basis.specs.Basis.{less_at, stripped, pass_to, projected, taken, unit, inserted, drop_tolerance}
use Rattle.basis.specs.Held.{vectors_in, Inserted}

-- ---- lengths

pub length-stripped : (z : Float) (q v : List Float) → length (stripped z q v) ≡ length v
unfolding stripped
length-stripped z q v = length-tab _ (length v)

pub length_pass : (z : Float) (b : List (List Float)) (v : List Float) (k : ℕ) → length (pass_to z b v k) ≡ length v
unfolding pass_to
length_pass z b v zero = refl
length_pass z b v (suc k) = length-stripped z (get_or b k []) (pass_to z b v k) ∙ length_pass z b v k

pub length-projected : (z : Float) (b : List (List Float)) (v : List Float) → length (projected z b v) ≡ length v
unfolding projected
length-projected z b v = length_pass z b (pass_to z b v (length b)) (length b) ∙ length_pass z b v (length b)

pub length-unit : (z : Float) (w : List Float) → length (unit z w) ≡ length w
unfolding unit
length-unit z w = length-tab _ (length w)

-- a basis never has more than l vectors
pub inserted-most : (z : Float) (l : ℕ) (b : List (List Float)) (v : List Float) → length b ≤ l → length (inserted z l b v) ≤ l
unfolding inserted
inserted-most z l b v h = go (ltb (length b) l) refl (taken z b v)
  where
    go : (t : Bool) → ltb (length b) l ≡ t → (s : Bool) → length (pick (t && s) (b ++ (unit z (projected z b v) ∷ [])) b) ≤ l
    go false e s = h
    go true e false = h
    go true e true = rw length-append (omega (arith, ltb-true (length b) l e))

-- ---- in a slice

pub length_vectors : (l count : ℕ) (b : List Float) → length (vectors_in l count b) ≡ count
length_vectors l count b = length-tab _ count

pub vector_at : (l count k : ℕ) (b : List Float) → k < count → get_or (vectors_in l count b) k [] ≡ part (k * l) l b
vector_at l count k b h = get_or-tab (λ i. part (i * l) l b) count k [] h

-- one more vector after the others
pub vectors_grown : (l count : ℕ) (b w : List Float) → count * l + l ≤ length b → length w ≡ l
    → vectors_in l (count + 1) (placed (count * l) l b w) ≡ vectors_in l count b ++ (w ∷ [])
unfolding tabulate
vectors_grown l count b w h e =
    rw (add-one count)
    (rw (
      tab_cong (λ k. part (k * l) l (placed (count * l) l b w)) (λ k. part (k * l) l b) count
          (λ k g. part-below (k * l) l (count * l) l b w (room k count l g) (omega arith)),
      part_same (count * l) l b w h e,
    ))

-- ---- the ways out of an insertion

and_false : (s t : Bool) → t ≡ false → (s && t) ≡ false
and_false true t e = e
and_false false t e = refl

module _ {z : Float} {l count : ℕ} {b v : List Float} where
  stays : inserted z l (vectors_in l count b) v ≡ vectors_in l count b → Inserted z count l b v count b
  stays e = record { counts = sym (ap length e ∙ length_vectors l count b); holds = sym e }

  pub full : l ≤ count → Inserted z count l b v count b
  unfolding inserted
  full h = stays (rw length_vectors (go (ltb count l) (ltb-true count l)))
    where
      go : (t : Bool) → (t ≡ true → count < l) → pick (t && taken z (vectors_in l count b) v)
          (vectors_in l count b ++ (unit z (projected z (vectors_in l count b) v) ∷ [])) (vectors_in l count b) ≡ vectors_in l count b
      go true f = absurd (omega (arith, f refl))
      go false f = refl

  pub refused : taken z (vectors_in l count b) v ≡ false → Inserted z count l b v count b
  unfolding inserted
  refused e = stays (rw (and_false (ltb (length (vectors_in l count b)) l) _ e))

  pub dropped_zero : eq (norm_of z v) plus_zero ≡ true → Inserted z count l b v count b
  unfolding taken
  dropped_zero e = refused (rw e)

  pub dropped_small : eq (norm_of z v) plus_zero ≡ false → le (norm_of z (projected z (vectors_in l count b) v)) (mul binary64 drop_tolerance (norm_of z v)) ≡ true
      → Inserted z count l b v count b
  unfolding taken
  dropped_small e f = refused (rw (e, f))

  pub kept : {b' : List Float} → count < l → eq (norm_of z v) plus_zero ≡ false
      → le (norm_of z (projected z (vectors_in l count b) v)) (mul binary64 drop_tolerance (norm_of z v)) ≡ false
      → length v ≡ l → l * l ≤ length b
      → b' ≡ placed (count * l) l b (unit z (projected z (vectors_in l count b) v)) → Inserted z count l b v (count + 1) b'
  unfolding inserted taken
  kept {b'} h e f g r s =
      let vs : List (List Float) = vectors_in l count b in
      let w : List Float = unit z (projected z vs v) in
      let i : inserted z l vs v ≡ vs ++ (w ∷ []) = rw (length_vectors l count b, lt-ltb count l h, e, f) in
      let lw : length w ≡ l = length-unit z (projected z vs v) ∙ length-projected z vs v ∙ g in
      let m : count * l + l ≤ length b = omega (arith, room count l l h) in
      record {
        counts = sym (ap length i ∙ rw length-append (omega (arith, length_vectors l count b)));
        holds = rw s (vectors_grown l count b w m lw) ∙ sym i;
      }

-- two passes, one after the other
pub two-passes : (z : Float) (l count : ℕ) (b v w w' : List Float)
    → w ≡ pass_to z (vectors_in l count b) v count → w' ≡ pass_to z (vectors_in l count b) w count → w' ≡ projected z (vectors_in l count b) v
unfolding projected
two-passes z l count b v w w' e f = rw length_vectors (f ∙ ap (λ (x : List Float). pass_to z (vectors_in l count b) x count) e)

-- ---- a pass

-- one vector more: c is the part of v along it
pub pass_turn : (l count k : ℕ) (b v₀ v v' : List Float) (c : Float) → k < count → v ≡ pass_to plus_zero (vectors_in l count b) v₀ k
    → c ≡ dot_of plus_zero (part (k * l) l b) v → v' ≡ tabulate (less_at c (part (k * l) l b) v) (length v)
    → v' ≡ pass_to plus_zero (vectors_in l count b) v₀ (k + 1)
unfolding pass_to stripped
pass_turn l count k b v₀ v v' c h e d f =
    f ∙ rw (d, e) (sym (rw (add-one k, vector_at l count k b h) refl))
