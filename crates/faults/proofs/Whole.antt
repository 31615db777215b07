-- What the number that a call for several items is refused by as a whole has to do with the single call's: a call for one item and that item's own
-- tests have together the single call's number, and in a call that is not refused as a whole, which has the sizes that it is to have, each item's own
-- tests have it alone.
use Prim.Native.Nat.{ℕ, zero, suc, ◌*◌, ◌≤◌}
use mathlib.Core.Path.{◌≡◌, refl, ap}
use mathlib.Core.Bool.{Bool, true, false, not, ◌||◌}
use mathlib.Core.List.{List}
use native.Mathlib.Nat.{one-mul}
use native.Mathlib.Omega.{arith}
use lib.Dec.{eqb, ltb, eqb-suc-zero}
use lib.ListN.{length}
use lib.Ieee.{Float}
use borrow.Author.Tests.{eq-eqb, eqb-true, ltb-false, not-false}
use Rattle.seq.specs.Choice.{pick, or_else}
use Rattle.seq.proofs.Choosing.{neither}
use Rattle.limits.specs.Limits.{too_large, bounded}
use Rattle.limits.specs.Votes.{bytes_of, spare_clear, spare_fault}
use Rattle.ieee.specs.Constants.{one}
use Rattle.refusal.proofs.Reasons.{no_fault}
use Rattle.rules.specs.Rules.{rule_fault}
use Rattle.rules.specs.declared.Rule.{Rule}
use Rattle.faults.specs.Faults.{edition_fault, room_fault, size_fault, weight_fault, value_fault, job_fault, lists_off, whole_of, whole_fault, bits_whole_fault}
use Rattle.faults.specs.Faults.{item_fault}

-- the sizes of a call that is not refused as a whole
pub record Fits (items m n entries matrix weights seeds editions rules allowances limits output numbers indices : ℕ) : Type 0 where
  pub few : items ≤ 64
  pub fine : too_large m n ≡ false
  pub columns : matrix ≡ entries
  pub given : weights ≡ items * m
  pub seeded : seeds ≡ items
  pub edited : editions ≡ items
  pub ruled : rules ≡ items
  pub allowed : allowances ≡ items
  pub limited : limits ≡ items
  pub left : output ≡ items * m
  pub room : room_fault m n numbers indices ≡ 0

pub fits : (items m n entries matrix weights seeds editions rules allowances limits output numbers indices found : ℕ)
    → whole_of items m n entries matrix weights seeds editions rules allowances limits output numbers indices found ≡ 0
    → Fits items m n entries matrix weights seeds editions rules allowances limits output numbers indices × (found ≡ 0)
fits items m n entries matrix weights seeds editions rules allowances limits output numbers indices found h =
    let x = go (ltb 64 items || too_large m n) (lists_off items m entries matrix weights seeds editions rules allowances limits output)
    (or_else (room_fault m n numbers indices) found) h in
    let few = neither (ltb 64 items) (too_large m n) x.0 in
    let rest = no_fault (room_fault m n numbers indices) found x.2 in
    let a7 = neither _ (not (eqb output (items * m))) x.1 in
    let a6 = neither _ (not (eqb limits items)) a7.0 in
    let a5 = neither _ (not (eqb allowances items)) a6.0 in
    let a4 = neither _ (not (eqb rules items)) a5.0 in
    let a3 = neither _ (not (eqb editions items)) a4.0 in
    let a2 = neither _ (not (eqb seeds items)) a3.0 in
    let a1 = neither (not (eqb matrix entries)) (not (eqb weights (items * m))) a2.0 in (
      record {
        few = ltb-false 64 items few.0;
        fine = few.1;
        columns = same matrix entries a1.0;
        given = same weights (items * m) a1.1;
        seeded = same seeds items a2.1;
        edited = same editions items a3.1;
        ruled = same rules items a4.1;
        allowed = same allowances items a5.1;
        limited = same limits items a6.1;
        left = same output (items * m) a7.1;
        room = rest.0;
      },
      rest.1,
    )
  where
    same : (a b : ℕ) → not (eqb a b) ≡ false → a ≡ b
    same a b e = eqb-true a b (not-false (eqb a b) e)

    go : (a b : Bool) (k : ℕ) → pick a 3 (pick b 4 k) ≡ 0 → (a ≡ false) × (b ≡ false) × (k ≡ 0)
    go true b k e = absurd (omega arith)
    go false true k e = absurd (omega arith)
    go false false k e = (refl, refl, e)

-- nothing was found
none_found : (t : Bool) (k : ℕ) → pick t 0 (suc k) ≡ 0 → t ≡ true
none_found true k e = refl
none_found false k e = absurd (omega arith)

-- what such a call has: on doubles
pub whole : (items : ℕ) (matrix : List Float) (m n weights seeds editions rules allowances limits output numbers indices : ℕ)
    → whole_fault items matrix m n weights seeds editions rules allowances limits output numbers indices ≡ 0
    → Fits items m n (m * n) (length matrix) weights seeds editions rules allowances limits output numbers indices × (bounded one matrix ≡ true)
unfolding whole_fault
whole items matrix m n weights seeds editions rules allowances limits output numbers indices h =
    let x = fits items m n (m * n) (length matrix) weights seeds editions rules allowances limits output numbers indices (pick (bounded one matrix) 0 7) h in
    (x.0, none_found (bounded one matrix) 6 x.1)

-- and on bits
pub whole-bits : (items : ℕ) (bits : List ℕ) (m n weights seeds editions rules allowances limits output numbers indices : ℕ)
    → bits_whole_fault items bits m n weights seeds editions rules allowances limits output numbers indices ≡ 0
    → Fits items m n (m * bytes_of n) (length bits) weights seeds editions rules allowances limits output numbers indices × (spare_clear bits m n ≡ true)
unfolding bits_whole_fault
whole-bits items bits m n weights seeds editions rules allowances limits output numbers indices h =
    let x = fits items m n (m * bytes_of n) (length bits) weights seeds editions rules allowances limits output numbers indices (spare_fault bits m n) h in
    (x.0, none_found (spare_clear bits m n) 14 x.1)

-- in such a call each item has the sizes of a single call
pub item_sized : {items m n matrix weights seeds editions rules allowances limits output numbers indices : ℕ}
    → Fits items m n (m * n) matrix weights seeds editions rules allowances limits output numbers indices → size_fault m n matrix m m numbers indices ≡ 0
unfolding size_fault
item_sized {m = m} c = rw (c.fine, eq-eqb _ _ c.columns, eq-eqb m m refl) c.room

-- a single call whose sizes and matrix have no fault has the number of the item's own tests
pub item_alone : (rule : Rule) (edition : ℕ) (matrix : List Float) (m n : ℕ) (w : List Float) (output numbers indices : ℕ)
    → size_fault m n (length matrix) (length w) output numbers indices ≡ 0 → bounded one matrix ≡ true
    → job_fault rule edition matrix m n w output numbers indices ≡ item_fault rule edition w
unfolding job_fault value_fault
item_alone rule edition matrix m n w output numbers indices sized entries = rw (sized, entries)

-- the single call's number is the first, in its order, of those of a call for one item and of the item
pub single_is_first : (rule : Rule) (edition : ℕ) (matrix : List Float) (m n : ℕ) (w : List Float) (output numbers indices : ℕ)
    → job_fault rule edition matrix m n w output numbers indices
    ≡ or_else (rule_fault rule) (or_else (edition_fault edition)
    (or_else (whole_fault 1 matrix m n (length w) 1 1 1 1 1 output numbers indices) (weight_fault w)))
unfolding job_fault size_fault value_fault whole_fault
single_is_first rule edition matrix m n w output numbers indices =
    ap (λ (k : ℕ). or_else (rule_fault rule) (or_else (edition_fault edition) k))
    (rw (one-mul m)
    (go (too_large m n) (eqb (length matrix) (m * n)) (eqb (length w) m) (eqb output m) (room_fault m n numbers indices) (bounded one matrix) (weight_fault w)))
  where
    last : (room : ℕ) (t : Bool) (k : ℕ) → or_else room (pick t k 7) ≡ or_else (or_else room (pick t 0 7)) k
    last zero true k = refl
    last zero false k = refl
    last (suc room) t k = rw (eqb-suc-zero room, eqb-suc-zero room)

    go : (large a b d : Bool) (room : ℕ) (t : Bool) (k : ℕ)
        → or_else (pick large 3 (pick (not a || (not b || not d)) 4 room)) (pick t k 7)
        ≡ or_else (pick large 3 (pick (not a || not b || false || false || false || false || false || not d) 4 (or_else room (pick t 0 7)))) k
    go true a b d room t k = refl
    go false false b d room t k = refl
    go false true false d room t k = refl
    go false true true false room t k = refl
    go false true true true room t k = last room t k
