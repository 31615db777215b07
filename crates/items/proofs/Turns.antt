-- What a call for several items holds after i of them, and after one more: the single call's answer at its place, the single call's output in its part,
-- and a scratch of zeros.
use Prim.Native.Nat.{ℕ, ◌+◌, ◌*◌, ◌-◌, ◌≤◌, ◌<◌}
use mathlib.Core.Path.{◌≡◌, ap, ◌∙◌}
use mathlib.Core.Bool.{Bool, true, false}
use mathlib.Core.List.{List}
use native.Mathlib.Nat.{mul-le-mul_right}
use native.Mathlib.Omega.{arith}
use lib.Dec.{eqb}
use lib.ListN.{length, set, drop, length-append, length-drop}
use lib.Ieee.{Float}
use Rattle.seq.specs.Choice.{pick}
use Rattle.seq.specs.Lists.{repeated, part, placed}
use Rattle.seq.specs.Sums.{plus_zero}
use Rattle.seq.proofs.Filling.{Filled, start, turn, room, length-tab}
use Rattle.seq.proofs.Parts.{length_part}
use Rattle.ieee.specs.Constants.{one}
use Rattle.limits.specs.Limits.{bounded}
use Rattle.limits.specs.Matrix.{columns_of}
use Rattle.weights.specs.Weights.{normalized}
use Rattle.stages.proofs.Lengths.{length-stage, length-normalized}
use Rattle.limits.proofs.Sizes.{small}
use Rattle.draw.specs.declared.SplitMix64.{SplitMix64}
use Rattle.rules.specs.declared.Rule.{Rule}
use Rattle.faults.specs.Faults.{size_fault}
use Rattle.faults.proofs.Whole.{Fits, whole, item_sized}
use Rattle.answers.specs.Answers.{refusal, stop_for, returned, Thinned}
use Rattle.answers.specs.declared.Answer.{Answer}
use Rattle.items.specs.Items.{Items, weights_at, source_at, rule_at, item_answer, item_output}
use Rattle.items.specs.All.{joined, call_fault}
use Rattle.items.specs.Between.{Each}
use Rattle.items.specs.declared.Answers.{Answers}
use Rattle.items.proofs.Joining.{drop-repeated, length-joined, put_in, none_in, next_place, one_more, all_in}

-- the sizes, the lists and the entries of a call that is not refused as a whole
pub record Called (matrix : List Float) (m n items : ℕ) (list : Items) (output numbers : List Float) (indices : List ℕ) : Type 0 where
  pub sized : Fits items m n (m * n) (length matrix) (length list.weights) (length list.seeds) (length list.editions) (length list.rules)
      (length list.allowances) (length list.limits) (length output) (length numbers) (length indices)
  pub entries : bounded one matrix ≡ true

pub called_of : (matrix : List Float) (m n items : ℕ) (list : Items) (output numbers : List Float) (indices : List ℕ)
    → call_fault matrix m n items list (length output) (length numbers) (length indices) ≡ 0 → Called matrix m n items list output numbers indices
called_of matrix m n items list output numbers indices none =
    let w = whole items matrix m n (length list.weights) (length list.seeds) (length list.editions) (length list.rules)
    (length list.allowances) (length list.limits) (length output) (length numbers) (length indices) none in
    record { sized = w.0; entries = w.1 }

-- from a to a + m there are m places
pub span : (a m : ℕ) → a + m - a ≡ m
span a m = omega arith

-- what is zero is zero whether it is cleared or kept
still_zero : {A : Type 0} (t : Bool) {xs ys : List A} (z : A) (k : ℕ) → xs ≡ repeated z k → ys ≡ pick t (repeated z (length xs)) xs → ys ≡ repeated z k
still_zero true z k e h = h ∙ ap (repeated z) (ap length e ∙ length-tab (λ i. z) k)
still_zero false z k e h = h ∙ e

module _ {matrix : List Float} {m n items : ℕ} {list : Items} {output numbers : List Float} {indices : List ℕ}
    (called : Called matrix m n items list output numbers indices) where
  -- the parts of an item lie within
  pub weights_inside : (i : ℕ) → i < items → i * m + m ≤ length list.weights
  weights_inside i h = omega (arith, room i items m h, called.sized.given)

  pub output_inside : (i : ℕ) → i < items → i * m + m ≤ length output
  output_inside i h = omega (arith, room i items m h, called.sized.left)

  pub weights_long : (i : ℕ) → i < items → length (weights_at m list i) ≡ m
  weights_long i h = length_part (i * m) m list.weights (weights_inside i h)

  pub output_long : (i : ℕ) → i < items → length (part (i * m) m output) ≡ m
  output_long i h = length_part (i * m) m output (output_inside i h)

  -- what a single call leaves in an output part is as long as the part
  pub item_long : (i : ℕ) → i < items → length (item_output matrix m n list (length numbers) (length indices) output i) ≡ m
  unfolding item_output
  item_long i h = go (eqb (item_answer matrix m n list (length numbers) (length indices) i).number 0)
    where
      w : List Float
      w = weights_at m list i

      go : (t : Bool) → length (pick t (returned matrix n w (source_at list i) (rule_at list i)).w (part (i * m) m output)) ≡ m
      go true =
          length-stage plus_zero (columns_of matrix n) n (normalized plus_zero w) (source_at list i) (stop_for matrix n w (source_at list i) (rule_at list i))
          ∙ length-normalized plus_zero w ∙ weights_long i h
      go false = output_long i h

  pub items_long : (i : ℕ) → i ≤ items → length (joined (item_output matrix m n list (length numbers) (length indices) output) i) ≡ i * m
  items_long i h = length-joined (item_output matrix m n list (length numbers) (length indices) output) m i (λ j l. item_long j (omega arith))

  -- the end of a part is a small number
  pub near : (i : ℕ) → i < items → i * m + m ≤ 16384
  near i h = omega (arith, room i 64 m (omega (arith, called.sized.few)), (small m n called.sized.fine).columns)

  -- a single call on item i, with scratch of the same lengths
  module _ (i : ℕ) (inside : i < items) {part' numbers' : List Float} {indices' : List ℕ} {a : Answer} {o numbers'' : List Float} {indices'' : List ℕ}
      (was : part' ≡ part (i * m) m output) (floats : length numbers' ≡ length numbers) (words : length indices' ≡ length indices)
      (t : Thinned (rule_at list i) (source_at list i) matrix m n (weights_at m list i) part' numbers' indices' a o numbers'' indices'') where
    pub answer_is : a ≡ item_answer matrix m n list (length numbers) (length indices) i
    unfolding item_answer
    answer_is = rw (ap length was ∙ output_long i inside, floats, words) at t.answers

    pub output_is : o ≡ item_output matrix m n list (length numbers) (length indices) output i
    unfolding item_output
    output_is = rw (answer_is, was) at t.writes

-- after i items
pub record Upto (matrix : List Float) (m n items : ℕ) (list : Items) (output numbers : List Float) (indices : List ℕ)
    (i : ℕ) (r : Answers) (output' numbers' : List Float) (indices' : List ℕ) : Type 0 where
  pub upto : i ≤ items
  pub number : r.number ≡ 0
  pub answers : Filled (item_answer matrix m n list (length numbers) (length indices)) (repeated (refusal 0) 64) i r.items
  pub writes : output' ≡ put_in (item_output matrix m n list (length numbers) (length indices) output) m output i
  pub floats : numbers' ≡ repeated plus_zero (length numbers)
  pub words : indices' ≡ repeated 0 (length indices)

module _ {matrix : List Float} {m n items : ℕ} {list : Items} {output numbers : List Float} {indices : List ℕ} where
  pub upto_none : {r : Answers} → r.number ≡ 0 → r.items ≡ repeated (refusal 0) 64
      → numbers ≡ repeated plus_zero (length numbers) → indices ≡ repeated 0 (length indices)
      → Upto matrix m n items list output numbers indices 0 r output numbers indices
  upto_none {r} e a f w =
      record {
        upto = omega arith;
        number = e;
        answers = rw a (start (item_answer matrix m n list (length numbers) (length indices)) (repeated (refusal 0) 64));
        writes = none_in (item_output matrix m n list (length numbers) (length indices) output) m output;
        floats = f;
        words = w;
      }

  module _ (called : Called matrix m n items list output numbers indices) {i : ℕ} {r : Answers} {output' numbers' : List Float} {indices' : List ℕ}
      (u : Upto matrix m n items list output numbers indices i r output' numbers' indices') where
    pub floats_long : length numbers' ≡ length numbers
    floats_long = ap length u.floats ∙ length-tab (λ j. plus_zero) (length numbers)

    pub words_long : length indices' ≡ length indices
    words_long = ap length u.words ∙ length-tab {A = ℕ} (λ j. 0) (length indices)

    pub place_was : part (i * m) m output' ≡ part (i * m) m output
    place_was = ap (part (i * m) m) u.writes
        ∙ next_place (item_output matrix m n list (length numbers) (length indices) output) m output i (items_long called i u.upto)

    pub output-kept : length output' ≡ length output
    output-kept =
        ap length u.writes ∙ length-append (joined (item_output matrix m n list (length numbers) (length indices) output) i) (drop (i * m) output)
        ∙ omega (arith, items_long called i u.upto, length-drop (i * m) output, mul-le-mul_right m u.upto, called.sized.left)

    -- the item's parts, cut with a length that equals m, have the sizes of a single call
    pub parts_sized : i < items → (k : ℕ) → k ≡ m
        → size_fault m n (length matrix) (length (part (i * m) k list.weights)) (length (part (i * m) k output')) (length numbers') (length indices') ≡ 0
    parts_sized h k e =
        rw (e, weights_long called i h, ap length place_was ∙ output_long called i h, floats_long, words_long) (item_sized called.sized)

    pub upto-more : i < items → {k : ℕ} → k ≡ m → {source : SplitMix64} → source ≡ source_at list i → {rule : Rule} → rule ≡ rule_at list i
        → {a : Answer} {o numbers'' : List Float} {indices'' : List ℕ}
        → Thinned rule source matrix m n (part (i * m) k list.weights) (part (i * m) k output') numbers' indices' a o numbers'' indices''
        → {s : Answers} → s.number ≡ r.number → s.items ≡ set r.items i a
        → Upto matrix m n items list output numbers indices (i + 1) s (placed (i * m) k output' o) numbers'' indices''
    upto-more h {k} cut {source} drawn {rule} named {a} {o} {numbers''} {indices''} thinned {s} e f =
        let t : Thinned (rule_at list i) (source_at list i) matrix m n (weights_at m list i) (part (i * m) m output') numbers' indices' a o numbers'' indices'' =
        rw (cut, drawn, named) at thinned in
        record {
          upto = omega arith;
          number = e ∙ u.number;
          answers = rw f (turn u.answers (rw (length-tab (λ j. refusal 0) 64) (omega (arith, called.sized.few)))
              (answer_is called i h place_was floats_long words_long t));
          writes = rw (cut, u.writes, output_is called i h place_was floats_long words_long t)
              (one_more (item_output matrix m n list (length numbers) (length indices) output) m output i (items_long called i u.upto));
          floats = still_zero (eqb a.number 0) plus_zero (length numbers) u.floats t.floats;
          words = still_zero (eqb a.number 0) 0 (length indices) u.words t.words;
        }

    -- after all of them
    pub upto_all : items ≤ i → Each matrix m n items list output numbers indices r output' numbers' indices'
    upto_all h =
        let e : i ≡ items = omega (arith, u.upto) in
        record {
          number = u.number;
          answers = u.answers.is ∙ rw (e, drop-repeated (refusal 0) 64 items called.sized.few);
          writes = u.writes ∙ rw e (all_in (item_output matrix m n list (length numbers) (length indices) output) m output items called.sized.left);
          floats = u.floats;
          words = u.words;
        }
