-- What an accepted sheet has.
use borrow.Author.Tests.{ltb-false, eqb-true, not-false}
use Prim.Native.Nat.{ℕ, ◌+◌, ◌*◌, ◌≤◌}
use mathlib.Core.Path.{◌≡◌, refl}
use mathlib.Core.Bool.{Bool, true, false, not, ◌&&◌, ◌||◌}
use native.Mathlib.Omega.{arith}
use lib.Dec.{eqb, ltb}
use Rattle.seq.specs.Choice.{pick}
use Rattle.seq.proofs.Choosing.{neither}
use Rattle.writing.specs.Writing.{too_much, write_fault}

-- what is not too much
pub not_too_much : (m n rule limit : ℕ) → too_much m n rule limit ≡ false → (m ≤ 32) × (n ≤ 64) × ((not (eqb rule 1) && ltb 4294967295 limit) ≡ false)
not_too_much m n rule limit h =
    let a = neither (ltb 32 m) (ltb 64 n || (not (eqb rule 1) && ltb 4294967295 limit)) h in
    let b = neither (ltb 64 n) (not (eqb rule 1) && ltb 4294967295 limit) a.1 in
    (ltb-false 32 m a.0, ltb-false 64 n b.0, b.1)

-- what an accepted sheet has
pub record Accepted (entries m n many edition rule limit : ℕ) : Type 0 where
  pub rules : rule ≤ 2
  pub columns : m ≤ 32
  pub rows : n ≤ 64
  pub limits : (not (eqb rule 1) && ltb 4294967295 limit) ≡ false
  pub matrices : entries ≡ m * n
  pub weighed : many ≡ m
  pub editions : (not (eqb edition 1) && not (eqb edition 2)) ≡ false

-- nothing that is not 0 is 0
never_zero : {X : Type 0} (k : ℕ) → ◌≡◌ {A = ℕ} (k + 1) 0 → X
never_zero k h = absurd (omega arith)

pub accepted : (entries m n many edition rule limit : ℕ) → write_fault entries m n many edition rule limit ≡ 0
    → Accepted entries m n many edition rule limit
unfolding write_fault
accepted entries m n many edition rule limit h =
    go (ltb 2 rule) (too_much m n rule limit) (not (eqb entries (m * n)) || not (eqb many m)) (not (eqb edition 1) && not (eqb edition 2)) refl refl refl
    refl h
  where
    go : (a b d e : Bool) → ltb 2 rule ≡ a → too_much m n rule limit ≡ b → (not (eqb entries (m * n)) || not (eqb many m)) ≡ d
        → (not (eqb edition 1) && not (eqb edition 2)) ≡ e → ◌≡◌ {A = ℕ} (pick a 2 (pick b 3 (pick d 4 (pick e 13 0)))) 0 → Accepted
        entries m n many edition rule limit
    go true b d e p q r s l = never_zero 1 l
    go false true d e p q r s l = never_zero 2 l
    go false false true e p q r s l = never_zero 3 l
    go false false false true p q r s l = never_zero 12 l
    go false false false false p q r s l =
        let x = not_too_much m n rule limit q in
        let y = neither (not (eqb entries (m * n))) (not (eqb many m)) r in
        record {
          rules = ltb-false 2 rule p;
          columns = x.0;
          rows = x.1;
          limits = x.2;
          matrices = eqb-true entries (m * n) (not-false (eqb entries (m * n)) y.0);
          weighed = eqb-true many m (not-false (eqb many m) y.1);
          editions = s;
        }
