-- A vector whose front is filled already, and four rows at once.
use Prim.Native.Nat.{ℕ, ◌+◌, ◌≤◌, ◌<◌}
use mathlib.Core.Path.{◌≡◌, ap, ◌∙◌, subst}
use mathlib.Core.List.{List, ◌++◌}
use native.Mathlib.Omega.{arith}
use lib.ListN.{length, drop, set, length-append, length-drop}
use Rattle.seq.specs.Lists.{tabulate}
use Rattle.seq.proofs.Filling.{Filled, length-tab, tab_cong, turn}

module _ {A : Type 0} where
  pub from_front : {f : ℕ → A} {w v : List A} (i : ℕ) → i ≤ length w → v ≡ tabulate f i ++ drop i w → Filled f w i v
  from_front {f} {w} {v} i h e =
      record {
        upto = h;
        long = ap length e ∙ length-append (tabulate f i) (drop i w) ∙ omega (arith, length-tab f i, length-drop i w);
        is = e;
      }

  -- the same front, said otherwise
  pub front_as : {f g : ℕ → A} {w v : List A} (i : ℕ) → i ≤ length w → ((j : ℕ) → j < i → f j ≡ g j) → v ≡ tabulate f i ++ drop i w → Filled g w i v
  front_as {f} {g} {w} i h k e = from_front i h (e ∙ ap (λ (l : List A). l ++ drop i w) (tab_cong f g i k))

  pub turn-four : {f : ℕ → A} {w v : List A} {i : ℕ} {x y z t : A} → Filled f w i v → i + 4 ≤ length w
      → x ≡ f i → y ≡ f (i + 1) → z ≡ f (i + 2) → t ≡ f (i + 3)
      → Filled f w (i + 4) (set (set (set (set v i x) (i + 1) y) (i + 2) z) (i + 3) t)
  turn-four {f} {w} {v} {i} {x} {y} {z} {t} p h a b c d =
      let one : Filled f w (i + 1) (set v i x) = turn p (omega arith) a in
      let two : Filled f w (i + 2) (set (set v i x) (i + 1) y) = subst (λ (n : ℕ). Filled f w n (set (set v i x) (i + 1) y))
      (let e : i + 1 + 1 ≡ i + 2 = omega arith in e) (turn one (omega arith) b) in
      let three : Filled f w (i + 3) (set (set (set v i x) (i + 1) y) (i + 2) z) = subst (λ (n : ℕ). Filled f w n (set (set (set v i x) (i + 1) y) (i + 2) z))
      (let e : i + 2 + 1 ≡ i + 3 = omega arith in e) (turn two (omega arith) c) in
      subst (λ (n : ℕ). Filled f w n (set (set (set (set v i x) (i + 1) y) (i + 2) z) (i + 3) t)) (let e : i + 3 + 1 ≡ i + 4 = omega arith in e)
      (turn three (omega arith) d)
