-- Laws of a stretch of rows: the largest magnitude over a + b rows goes on from that over a rows.
use Prim.Native.Nat.{ℕ, zero, suc, ◌+◌, ◌≤◌, ◌<◌}
use mathlib.Core.Path.{◌≡◌, refl, sym, ap, ◌∙◌}
use mathlib.Core.List.{List}
use native.Mathlib.Nat.{add-zero, add-suc}
use native.Mathlib.Omega.{arith}
use native.Mathlib.Numerals.{add-one}
use lib.ListN.{length, take}
use lib.Seq.{take_all}
use Rattle.std.specs.List.{fold}
use Rattle.std.proofs.lemmas.List.Sums.{fold_more}
use lib.Ieee.{Float, nan}
use Rattle.seq.specs.Lists.{tabulate}
use Rattle.seq.specs.Sums.{at}
use Rattle.seq.proofs.Filling.{length-tab, get_or-tab}
use Rattle.ieee.specs.Magnitude.{abs_of, larger_of, max_abs_to}
use Rattle.change.specs.Largest.{max_abs_from}

-- the largest of a + b rows is that of the b rows after the first a, from that of the first a
pub max_parts : (v : ℕ → Float) (a b : ℕ) → max_abs_to v (a + b) ≡ max_abs_from (max_abs_to v a) (λ i. v (a + i)) b
unfolding max_abs_to max_abs_from
max_parts v a zero = rw (add-zero a)
max_parts v a (suc b) = rw (add-suc a b, max_parts v a b)

-- equal rows have an equal largest
pub max_cong : (s : Float) (v w : ℕ → Float) (k : ℕ) → ((i : ℕ) → i < k → v i ≡ w i) → max_abs_from s v k ≡ max_abs_from s w k
unfolding max_abs_from
max_cong s v w zero h = refl
max_cong s v w (suc k) h = rw (max_cong s v w k (λ i l. h i (omega arith)), h k (omega arith))

-- a block with the rows from a on makes the largest of the first a that of the first a + b
pub max_block : (v : ℕ → Float) (a b : ℕ) (most : Float) (block : List Float)
    → most ≡ max_abs_to v a → block ≡ tabulate (λ i. v (a + i)) b → max_abs_from most (at block) (length block) ≡ max_abs_to v (a + b)
max_block v a b most block e k =
    rw (max_parts v a b, k, length-tab (λ i. v (a + i)) b, e)
    (max_cong (max_abs_to v a) (at (tabulate (λ i. v (a + i)) b)) (λ i. v (a + i)) b (λ i h. get_or-tab (λ i. v (a + i)) b i nan h))

-- a fold over a block is the largest magnitude by its rows
largest_front : (most : Float) (block : List Float) (k : ℕ) → k ≤ length block
    → fold (λ r x. larger_of r (abs_of x)) most (take k block) ≡ max_abs_from most (at block) k
unfolding max_abs_from
largest_front most block zero h = refl
largest_front most block (suc k) h =
    rw (← largest_front most block k (omega arith)) (rw (← add-one k) (fold_more (λ r x. larger_of r (abs_of x)) most block k nan (omega arith)))

pub largest_whole : (most : Float) (block : List Float) → fold (λ r x. larger_of r (abs_of x)) most block ≡ max_abs_from most (at block) (length block)
largest_whole most block =
    ap (fold (λ r x. larger_of r (abs_of x)) most) (sym (take_all (length block) block (omega arith)))
    ∙ largest_front most block (length block) (omega arith)
