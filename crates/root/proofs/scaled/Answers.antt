-- `root::scaled` meets its contract. Where j is odd, the digits are doubled, so that an even power of two is left.
use Prim.Native.Nat.{ℕ, ◌-◌, ◌*◌, ◌^◌, ◌≤◌, ◌<◌}
use native.Mathlib.Omega.{arith}
use Rattle.root.proofs.RootDigits.{Ready, even_j, odd_j}
use Rattle.root.proofs.RootFloor.{sq-lt}
use Rattle.root.proofs.RootPattern.{pack}
use Rattle.root.proofs.scaled.Goals as goal
use Rattle.root.proofs.scaled.Goals.{then-s-eq1, else-s-eq1}

root_small : (M q : ℕ) → M ≤ 2 ^ 54 - 2 → q * q ≤ M * 2 ^ 54 → q < 2 ^ 54
root_small M q h l = sq-lt q (2 ^ 54) (omega arith)

pub digits-q-requires : goal.digits-q-requires
digits-q-requires c =
    let a = c.normal-s.ensures in
    let r : Ready c.args.t c.args.k c.normal-s.result.j c.if-s-eq1.m =
    elim c.if-s-eq1.branch
    [ then-s-eq1 w ↦ rw w.m-is (odd_j _ _ _ _ a w.if-s-eq1.true) | else-s-eq1 w ↦ rw w.m-is (even_j _ _ _ _ a w.if-s-eq1.false) ]
    in
    omega (arith, r.short)

pub overflow_add-result-2 : goal.overflow_add-result-2
overflow_add-result-2 c =
    let a = c.normal-s.ensures in
    let r : Ready c.args.t c.args.k c.normal-s.result.j c.if-s-eq1.m =
    elim c.if-s-eq1.branch
    [ then-s-eq1 w ↦ rw w.m-is (odd_j _ _ _ _ a w.if-s-eq1.true) | else-s-eq1 w ↦ rw w.m-is (even_j _ _ _ _ a w.if-s-eq1.false) ]
    in
    omega (arith, root_small _ _ r.short c.digits-q.ensures.0)

pub returns : goal.returns
returns c =
    let a = c.normal-s.ensures in
    let r : Ready c.args.t c.args.k c.normal-s.result.j c.if-s-eq1.m =
    elim c.if-s-eq1.branch
    [ then-s-eq1 w ↦ rw w.m-is (odd_j _ _ _ _ a w.if-s-eq1.true) | else-s-eq1 w ↦ rw w.m-is (even_j _ _ _ _ a w.if-s-eq1.false) ]
    in
    pack _ _ _ _ r.full r.short (omega (arith, r.near)) r.same c.digits-q.ensures.0 c.digits-q.ensures.1
