-- `entries::times_into` meets its contract: after each turn every row has the sum over the columns before the next that may add something.
use Prim.Native.Nat.{ℕ, ◌+◌, ◌≤◌, ◌<◌, max}
use mathlib.Core.List.{List}
use mathlib.Core.Path.{◌≡◌, ◌∙◌}
use native.Mathlib.Omega.{arith}
use lib.Ieee.{Float}
use lib.ListN.{length}
use Rattle.std.proofs.Common.{Option, None, Some}
use Rattle.std.specs.Option.{IfSome, unwrap_or}
use Rattle.seq.specs.Sums.{sum_from}
use Rattle.chosen.specs.PassedOver.{PassedOver}
use Rattle.chosen.proofs.Skipping.{times-passed, one_added, two_added}
use Rattle.entries.proofs.times_into.Goals as goal

-- what is passed over up to the next of m columns, or up to their end
record Next (scale g : List Float) (from : ℕ) (r : Option ℕ) (m : ℕ) : Type 0 where
  there : IfSome r (λ p. p < m)
  upto : unwrap_or r m ≤ m
  passed : PassedOver scale g from (unwrap_or r m)

next : {scale g : List Float} {from : ℕ} (r : Option ℕ) (m : ℕ) → length g ≡ m → from ≤ m
    → PassedOver scale g from (unwrap_or r (max from (length g))) → IfSome r (λ p. p < length g) → Next scale g from r m
next {scale} {g} {from} None m e l s h =
    let q : max from (length g) ≡ m = omega arith in
    record { there = tt; upto = omega arith; passed = rw q at s }
next (Some p) m e l s h = record { there = rw e at h; upto = omega arith; passed = s }

pub loop-next-init : goal.loop-next-init
unfolding sum_from
loop-next-init c =
    let a = c.args in
    let n = next c.next_live-next.result (length a.cols.now) c.requires.1 (omega arith) c.next_live-next.ensures.passed c.next_live-next.ensures.there in (
      n.there,
      times-passed a.matrix.now a.bits.now a.n a.cols.now a.scale.now a.g.now _ c.requires.0 0 _ _ _
          (rw c.fill.auto.a c.fill.ensures) n.passed n.upto,
    )

pub returns-in_default-next_live : goal.returns-in_default-next_live
returns-in_default-next_live c =
    let a = c.args in
    let l = c.loop-next in
    let i = rw c.in-Some.is at l.invariant in
    let n : Next a.scale.now a.g.now (c.in-Some.p + 1) c.next_live.result (length a.cols.now) = next _ _ c.requires.1 (omega (arith, i.0))
    c.next_live.ensures.passed c.next_live.ensures.there in
    let n = rw c.in_default-next_live.is at n in
    rw (← c.fill.auto.a)
    (times-passed a.matrix.now a.bits.now a.n a.cols.now a.scale.now a.g.now _ c.requires.0 _ _ _ _
    (c.add_one_at.ensures ∙ one_added a.matrix.now a.bits.now a.n a.cols.now a.scale.now a.g.now _ c.requires.0 c.in-Some.p l.acc _ i.1)
    n.passed n.upto)

pub loop-next-preserved : goal.loop-next-preserved
loop-next-preserved c =
    let a = c.args in
    let l = c.loop-next in
    let i = rw c.in-Some.is at l.invariant in
    let q = c.in-Some-next_live.q in
    let here : q + 1 ≤ length a.cols.now = omega (arith, c.requires.1, c.in-Some-next_live.ensures.there) in
    let n = next c.next_live-next-in-Some.result (length a.cols.now) c.requires.1 here c.next_live-next-in-Some.ensures.passed
    c.next_live-next-in-Some.ensures.there in (
      n.there,
      times-passed a.matrix.now a.bits.now a.n a.cols.now a.scale.now a.g.now _ c.requires.0 (q + 1) _ _ _
          (c.add_two_at.ensures
          ∙ two_added a.matrix.now a.bits.now a.n a.cols.now a.scale.now a.g.now _ c.requires.0 c.in-Some.p q l.acc _ i.1
          c.in-Some-next_live.ensures.passed (omega (arith, here)))
          n.passed n.upto,
    )
