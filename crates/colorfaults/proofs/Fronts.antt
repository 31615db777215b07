-- The front of a longer list that is lent and comes back: what stands there, and how long it is.
use Prim.Native.Nat.{ℕ, ◌≤◌}
use mathlib.Core.Path.{◌≡◌, ◌∙◌}
use mathlib.Core.List.{List, ◌++◌}
use native.Mathlib.Omega.{arith}
use lib.ListN.{length, take, drop, length-take}
use lib.Seq.{length-take-le, length_front, take_at}
use Rattle.seq.specs.Lists.{tabulate}
use Rattle.seq.proofs.Filling.{length-tab}

module _ {A : Type 0} where
  pub front_few : (m k : ℕ) (l : List A) → m ≤ k → length (take m l) ≤ k
  front_few m k l h = simp length-take (omega arith)

  module _ (m : ℕ) (w l : List A) (h : m ≤ length l) (e : length w ≡ length (take m l)) where
    -- w came back as the front of l
    pub front_back : take m (w ++ drop m l) ≡ w
    front_back = take_at w (drop m l) m (e ∙ length-take-le m l h)

    pub back_long : m ≤ length (w ++ drop m l)
    back_long = let k : length (w ++ drop m l) ≡ length l = length_front l w m e in omega arith

  -- the same of a front that was filled
  module _ (f : ℕ → A) (m : ℕ) (w l : List A) (h : m ≤ length l) (e : w ≡ tabulate f (length (take m l))) where
    filled-length : length w ≡ length (take m l)
    filled-length = rw e (length-tab f (length (take m l)))

    pub filled-back : take m (w ++ drop m l) ≡ tabulate f m
    filled-back = front_back m w l h filled-length ∙ rw (e, length-take-le m l h)

    pub filled_long : m ≤ length (w ++ drop m l)
    filled_long = back_long m w l h filled-length
