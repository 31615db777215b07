-- What holds of the arguments where nothing is refused.
use borrow.Author.Tests.{eqb-true}
use Prim.Native.Nat.{ℕ, ◌*◌}
use mathlib.Core.Path.{◌≡◌, refl}
use mathlib.Core.Bool.{Bool, true, false, not, ◌&&◌, ◌||◌}
use mathlib.Core.List.{List}
use native.Mathlib.Omega.{arith}
use lib.Dec.{eqb}
use lib.ListN.{length}
use lib.Ieee.{Float}
use Rattle.seq.specs.Choice.{pick}
use Rattle.limits.specs.Limits.{too_large, bounded}
use Rattle.limits.proofs.Sizes.{small}
use Rattle.refusal.proofs.Reasons.{no_fault}
use Rattle.ieee.specs.Constants.{one}
use Rattle.movefaults.specs.Changes.{Taken}
use Rattle.movefaults.specs.Answers.{length_fault, range_fault, moved_fault}

module _ (matrix : List Float) (m n : ℕ) (before after : List Float) (rows changes : ℕ) where
  -- what is not refused
  pub record Passed : Type 0 where
    pub taken : Taken matrix m n before after
    pub index : rows ≡ n
    pub list : changes ≡ n

  sizes : (large a b c d e : Bool) → ◌≡◌ {A = ℕ} (pick large 3 (pick (not a || (not b || (not c || (not d || not e)))) 4 0)) 0
      → (large ≡ false) × (a ≡ true) × (b ≡ true) × (c ≡ true) × (d ≡ true) × (e ≡ true)
  sizes true a b c d e h = absurd (omega arith)
  sizes false false b c d e h = absurd (omega arith)
  sizes false true false c d e h = absurd (omega arith)
  sizes false true true false d e h = absurd (omega arith)
  sizes false true true true false e h = absurd (omega arith)
  sizes false true true true true false h = absurd (omega arith)
  sizes false true true true true true h = (refl, refl, refl, refl, refl, refl)

  values : (a b c : Bool) → ◌≡◌ {A = ℕ} (pick a (pick (b && c) 0 8) 7) 0 → (a ≡ true) × (b ≡ true) × (c ≡ true)
  values false b c h = absurd (omega arith)
  values true false c h = absurd (omega arith)
  values true true false h = absurd (omega arith)
  values true true true h = (refl, refl, refl)

  pub passed : moved_fault matrix m n before after rows changes ≡ 0 → Passed
  unfolding moved_fault length_fault range_fault
  passed h =
      let p = no_fault (length_fault m n (length matrix) (length before) (length after) rows changes) (range_fault matrix before after) h in
      let s = sizes (too_large m n) (eqb (length matrix) (m * n)) (eqb (length before) m) (eqb (length after) m) (eqb rows n) (eqb changes n) p.0 in
      let v = values (bounded one matrix) (bounded one before) (bounded one after) p.1 in
      let k = small m n s.0 in
      record {
        taken =
            record {
              lent = record {
                whole = record {
                  doubles = λ _. eqb-true (length matrix) (m * n) s.1;
                  votes = λ h. absurd
                      (omega arith);
                };
                few = k.columns;
                short = k.rows;
              };
              first = eqb-true (length before) m s.2;
              second = eqb-true (length after) m s.3;
              entries = v.0;
              old = v.1;
              new = v.2;
            };
        index = eqb-true rows n s.4;
        list = eqb-true changes n s.5;
      }
