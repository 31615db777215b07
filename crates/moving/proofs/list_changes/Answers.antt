-- `moving::list_changes` meets its contract: the keys are the changes, none of them a NaN.
use mathlib.Core.Path.{subst}
use Rattle.limits.specs.Matrix.{columns_of}
use Rattle.marking.specs.Moved.{Numbers, Working, Moved}
use Rattle.moving.proofs.Numbers.{changes_numbers}
use Rattle.moving.proofs.Listing.{filled}
use Prim.Native.Nat.{ℕ}
use mathlib.Core.Path.{refl, sym, ◌∙◌}
use mathlib.Core.List.{List}
use native.Mathlib.Omega.{arith}
use lib.Ieee.{Float}
use lib.ListN.{length}
use Rattle.moving.proofs.list_changes.Goals as goal

pub changes_into-requires : goal.changes_into-requires
changes_into-requires c =
    let p = c.requires in
    ((p.0.lent, p.0.second), omega (arith, p.3), refl)

pub list_moved-requires : goal.list_moved-requires
list_moved-requires c =
    let p = c.requires in
    let a = c.args in
    let b = a.before.now in
    let e = filled (columns_of a.matrix.now a.n) (length b) a.n b a.after.now _ _ c.changes_into.ensures p.3 in
    let keys = c.changes_into.auto.block ∙ p.3 in (
      subst Numbers (sym e) (changes_numbers a.matrix.now (length b) a.n b a.after.now p.0
          c.type_inv.matrix c.type_inv.before
          c.type_inv.after),
      p.1 ∙ sym keys,
      p.2 ∙ sym keys,
      subst (λ (k : ℕ). Working k (length a.room.now) (length a.counts.now)) (sym p.1) p.4,
    )

pub returns : goal.returns
returns c =
    let a = c.args in
    let b = a.before.now in
    let e = filled (columns_of a.matrix.now a.n) (length b) a.n b a.after.now _ _ c.changes_into.ensures c.requires.3 in
    subst (λ (v : List Float). Moved v c.list_moved.new.rows c.list_moved.new.changes) e c.list_moved.ensures
