-- The answer of a job on the matrix of margins is that on the confidences, to the bit: a margin is the confidence, turned where its row's label is -1.
use Prim.Native.Nat.{ℕ, zero, suc, ◌+◌, ◌*◌, ◌%◌, ◌<◌, ◌≤◌}
use mathlib.Core.Path.{◌≡◌, refl, ap, ◌∙◌, subst, sym}
use mathlib.Core.Bool.{Bool, true, false}
use mathlib.Core.List.{List}
use native.Mathlib.Decide.{dec_lt}
use native.Mathlib.Nat.{mod-lt, mul-add-mod_self_right}
use native.Mathlib.Omega.{arith}
use borrow.Author.Tests.{eqb-true}
use lib.IntN.{ℤ, pos, negsuc}
use lib.Dec.{T}
use lib.ListN.{length, get_or, get_or-eq_default}
use lib.Ieee.{Float, nan, fin, binary64, of_int, round, neg, mul, fits}
use Rattle.seq.specs.Sums.{plus_zero, at}
use Rattle.seq.proofs.Filling.{length-tab, get_or-tab}
use Rattle.ieee.proofs.Alikes.{alike_refl, alike_of_eq}
use Rattle.ieee.proofs.Ops.{unlike_false, mul_commutes}
use Rattle.ieee.proofs.Products.{times-one}
use Rattle.limits.specs.Matrix.{columns_of}
use Rattle.weights.specs.Weights.{nonzeros, normalized}
use Rattle.stages.specs.Stages.{stage_of, path_of}
use Rattle.stages.specs.Stopping.{passes_to}
use Rattle.draw.specs.declared.SplitMix64.{SplitMix64}
use Rattle.rules.specs.declared.Rule.{Rule}
use Rattle.answers.specs.Answers.{answer_at, answer_of, stop_for, returned}
use Rattle.seq.proofs.Every.{every_at}
use Rattle.turning.proofs.Signed.{Facing, facing, nan_facing, mul_facing}
use Rattle.turning.proofs.Passes.{plus-start}
use Rattle.turning.proofs.Stages.{stage_same, moved_same, stop_same, passes_same}
use Rattle.votefaults.specs.Votes.{is_label, all_labels, margin_of, margins_of}

-- ---- one margin

-- a label that turns its row
abbrev is_minus : ℤ → Bool
is_minus (pos k) = false
is_minus (negsuc k) = true

-- 1.0 or -1.0
one_facing : (y : ℤ) → is_label y ≡ true → Facing (is_minus y) (of_int binary64 y) (fin false 1 (pos 0))
unfolding of_int round neg
one_facing (pos k) h = record { alike = alike_of_eq (ap (λ (k : ℕ). of_int binary64 (pos k)) (eqb-true k 1 h)) }
one_facing (negsuc k) h = record { alike = alike_of_eq (ap (λ (k : ℕ). of_int binary64 (negsuc k)) (eqb-true k 0 h)) }

margin_facing : (y : ℤ) (x : Float) → is_label y ≡ true → T (fits binary64 x) → Facing (is_minus y) (mul binary64 (of_int binary64 y) x) x
margin_facing y x h p =
    subst (λ (z : Float). Facing (is_minus y) (mul binary64 (of_int binary64 y) x) z) (mul_commutes binary64 (fin false 1 (pos 0)) x ∙ times-one binary64 x p)
    (mul_facing binary64 (unlike_false (is_minus y)) (one_facing y h) (facing (alike_refl x)))

-- ---- all of them

module _ (labels : List ℤ) (n : ℕ) (confidences : List Float) (good : all_labels labels ≡ true) (rows : length labels ≡ n) (some : 0 < n)
    (held : (k : ℕ) → k < length confidences → T (fits binary64 (at confidences k))) where
  abbrev margins : List Float
  margins = margins_of labels n confidences

  -- the rows that are turned
  abbrev turns : ℕ → Bool
  turns i = is_minus (get_or labels (i % n) (pos 0))

  label_good : (i : ℕ) → is_label (get_or labels (i % n) (pos 0)) ≡ true
  label_good i = every_at (λ i. is_label (get_or labels i (pos 0))) (length labels) (i % n) good (rw rows (mod-lt i some))

  -- the label of an entry is that of its row
  row_of : (j i : ℕ) → get_or labels ((j * n + i) % n) (pos 0) ≡ get_or labels (i % n) (pos 0)
  row_of j i = ap (λ (k : ℕ). get_or labels k (pos 0)) (mul-add-mod_self_right j n i)

  entry_facing : (j i : ℕ) → Facing (turns i) (columns_of margins n j i) (columns_of confidences n j i)
  entry_facing j i = go (dec_lt (j * n + i) (length confidences))
    where
      go : Dec (j * n + i < length confidences) → Facing (turns i) (at margins (j * n + i)) (at confidences (j * n + i))
      go (yes h) =
          subst (λ (x : Float). Facing (turns i) x (at confidences (j * n + i)))
          (sym (get_or-tab (margin_of labels n confidences) (length confidences) (j * n + i) nan h
          ∙ ap (λ (y : ℤ). mul binary64 (of_int binary64 y) (at confidences (j * n + i))) (row_of j i)))
          (margin_facing (get_or labels (i % n) (pos 0)) (at confidences (j * n + i)) (label_good i) (held (j * n + i) h))
      go (no h) =
          let l : length confidences ≤ j * n + i = omega arith in
          let m : length margins ≤ j * n + i = omega (arith, length-tab (margin_of labels n confidences) (length confidences)) in
          subst (λ (x : Float). Facing (turns i) x (at confidences (j * n + i))) (sym (get_or-eq_default margins nan m))
          (subst (Facing (turns i) nan) (sym (get_or-eq_default confidences nan l)) (nan_facing (turns i)))

  -- ---- the answer

  module _ (w : List Float) (source : SplitMix64) where
    abbrev start : List Float
    start = normalized plus_zero w

    stage_at : (i : ℕ) → stage_of plus_zero (columns_of margins n) n start source i ≡ stage_of plus_zero (columns_of confidences n) n start source i
    stage_at = stage_same plus-start turns (columns_of margins n) (columns_of confidences n) entry_facing n start source

    stop-at : (rule : Rule) → stop_for margins n w source rule ≡ stop_for confidences n w source rule
    stop-at = stop_same plus-start turns (columns_of margins n) (columns_of confidences n) entry_facing n start source

    -- the stage that the last pass made
    last-at : (rule : Rule) (k : ℕ) → stage_of plus_zero (columns_of margins n) n start source (passes_to plus_zero (columns_of margins n) n start source rule k)
        ≡ stage_of plus_zero (columns_of confidences n) n start source (passes_to plus_zero (columns_of confidences n) n start source rule k)
    last-at rule k =
        stage_at (passes_to plus_zero (columns_of margins n) n start source rule k)
        ∙ ap (stage_of plus_zero (columns_of confidences n) n start source)
        (passes_same plus-start turns (columns_of margins n) (columns_of confidences n) entry_facing n start source rule k)

    answer_at_lem : (rule : Rule) (k : ℕ) → answer_at (columns_of margins n) n start source rule k ≡ answer_at (columns_of confidences n) n start source rule k
    answer_at_lem rule k =
        let moved = moved_same plus-start turns (columns_of margins n) (columns_of confidences n) entry_facing n start source in
        λ i. record {
          number = 0;
          stage = k;
          nonzeros = nonzeros (stage_at k i).w;
          change = moved k i;
          directions = (last-at rule k i).directions;
          sweeps = (last-at rule k i).sweeps;
          path_nonzeros = path_of 0 (λ j. nonzeros (stage_at j i).w) k;
          path_change = path_of plus_zero (λ j. moved j i) k;
        }

    pub answer_same : (rule : Rule) → answer_of margins n w source rule ≡ answer_of confidences n w source rule
    unfolding answer_of
    answer_same rule = answer_at_lem rule (stop_for margins n w source rule) ∙ ap (answer_at (columns_of confidences n) n start source rule) (stop-at rule)

    pub returned_same : (rule : Rule) → returned margins n w source rule ≡ returned confidences n w source rule
    returned_same rule = stage_at (stop_for margins n w source rule) ∙ ap (stage_of plus_zero (columns_of confidences n) n start source) (stop-at rule)
