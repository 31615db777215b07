-- `turned::turned_of` meets its contract: after a turn the count is that of the rows up to the block's end.
use Prim.Native.Nat.{ℕ, ◌+◌, min}
use mathlib.Core.Path.{◌≡◌, refl, ap, ◌∙◌}
use native.Mathlib.Nat.{add-sub_cancel_left}
use native.Mathlib.Omega.{arith}
use lib.Ieee.{Float}
use lib.ListN.{length}
use lib.Seq.{length_front}
use Rattle.seq.specs.Keep.{count}
use Rattle.limits.specs.Reading.{read_of}
use Rattle.turned.specs.Turned.{margin_at, turns_at, turned_count}
use Rattle.rows.proofs.Stretches.{front_back, front_long}
use Rattle.turned.proofs.Counting.{count_short, count_block}
use Rattle.turned.proofs.turned_of.Goals as goal

pub loop-from-init : goal.loop-from-init
unfolding count
loop-from-init c =
    let none : min 0 c.args.n ≡ 0 = omega arith in
    (refl, refl, refl, rw none refl)

pub overflow_add-turned : goal.overflow_add-turned
overflow_add-turned c =
    let k = c.block_length-k in
    let l = c.loop-from in
    omega (
      arith,
      front_long k.result l.was c.margins_into.new.block (omega arith) c.margins_into.auto.block,
      c.requires.0.0.short,
      count_short _ _ l.turned l.invariant.3,
      count_short _ _ c.count_turned-turned.result c.count_turned-turned.ensures,
    )

pub loop-from-preserved : goal.loop-from-preserved
loop-from-preserved c =
    let a = c.args in
    let l = c.loop-from in
    let k = c.block_length-k in
    let x = c.margins_into in
    let y = c.margins_into-in-loop-from in
    let v : ℕ → Float = margin_at (read_of a.matrix.now a.bits.now a.n) (length a.before.now) a.before.now in
    let w : ℕ → Float = margin_at (read_of a.matrix.now a.bits.now a.n) (length a.before.now) a.after.now in
    let so_far : min l.from a.n ≡ l.from = omega arith in
    let further : l.from + k.result ≡ min (l.from + 64) a.n = omega (arith, k.ensures) in (
      omega (arith, l.invariant.0),
      length_front l.was x.new.block k.result x.auto.block ∙ l.invariant.1,
      length_front l.is y.new.block k.result y.auto.block ∙ l.invariant.2,
      rw (l.invariant.3, so_far, c.count_turned-turned.ensures, add-sub_cancel_left l.from k.result)
          (count_block a.thresholds.now v w l.from k.result _ _
          (front_back k.result l.was x.new.block (λ i. v (l.from + i)) (omega arith) x.ensures)
          (front_back k.result l.is y.new.block (λ i. w (l.from + i)) (omega arith) (rw c.requires.0.1 at y.ensures))
          ∙ ap (count (turns_at (read_of a.matrix.now a.bits.now a.n) (length a.before.now) a.before.now a.after.now a.thresholds.now)) further),
    )

pub returns : goal.returns
unfolding turned_count
returns c =
    let a = c.args in
    let all : min c.loop-from.from a.n ≡ a.n = omega arith in
    c.loop-from.invariant.3
    ∙ ap (count (turns_at (read_of a.matrix.now a.bits.now a.n) (length a.before.now) a.before.now a.after.now a.thresholds.now)) all

-- the last block ends the rows
pub returns-2 : goal.returns-2
unfolding turned_count
returns-2 c =
    let a = c.args in
    let l = c.loop-from in
    let k = c.block_length-k in
    let x = c.margins_into in
    let y = c.margins_into-in-loop-from in
    let v : ℕ → Float = margin_at (read_of a.matrix.now a.bits.now a.n) (length a.before.now) a.before.now in
    let w : ℕ → Float = margin_at (read_of a.matrix.now a.bits.now a.n) (length a.before.now) a.after.now in
    let so_far : min l.from a.n ≡ l.from = omega arith in
    let all : l.from + k.result ≡ a.n = omega (arith, k.ensures) in
    rw (l.invariant.3, so_far, c.count_turned-turned.ensures, add-sub_cancel_left l.from k.result)
    (count_block a.thresholds.now v w l.from k.result _ _
    (front_back k.result l.was x.new.block (λ i. v (l.from + i)) (omega arith) x.ensures)
    (front_back k.result l.is y.new.block (λ i. w (l.from + i)) (omega arith) (rw c.requires.0.1 at y.ensures))
    ∙ ap (count (turns_at (read_of a.matrix.now a.bits.now a.n) (length a.before.now) a.before.now a.after.now a.thresholds.now)) all)
