-- `change::largest_change` meets its contract: after a turn the largest is that of the rows up to the block's end.
use lib.Seq.{length_front}
use Rattle.ieee.specs.Magnitude.{max_abs_to}
use Rattle.limits.specs.Reading.{read_of}
use Rattle.change.specs.Margins.{change_to, max_change}
use Rattle.rows.proofs.Stretches.{front_back}
use Rattle.change.proofs.Largest.{max_block}
use Prim.Native.Nat.{ℕ, ◌+◌, min}
use mathlib.Core.Path.{◌≡◌, refl, ap, ◌∙◌}
use native.Mathlib.Omega.{arith}
use lib.Ieee.{Float}
use lib.ListN.{length}
use Rattle.change.proofs.largest_change.Goals as goal

pub loop-from-init : goal.loop-from-init
unfolding max_abs_to
loop-from-init c =
    let none : min 0 c.args.n ≡ 0 = omega arith in
    (refl, refl, rw none refl)

pub loop-from-preserved : goal.loop-from-preserved
loop-from-preserved c =
    let a = c.args in
    let l = c.loop-from in
    let k = c.block_length-k in
    let x = c.changes_into in
    let v : ℕ → Float = λ i. change_to (read_of a.matrix.now a.bits.now a.n) a.before.now a.after.now i (length a.before.now) in
    let so_far : min l.from a.n ≡ l.from = omega arith in
    let further : l.from + k.result ≡ min (l.from + length a.block.now) a.n = omega (arith, k.ensures) in (
      omega (arith, c.requires, l.invariant.0),
      length_front l.block x.new.block k.result x.auto.block ∙ l.invariant.1,
      c.largest_from-most.ensures
          ∙ max_block v l.from k.result l.most _ (l.invariant.2 ∙ ap (max_abs_to v) so_far)
          (front_back k.result l.block x.new.block (λ i. v (l.from + i)) (omega arith) x.ensures)
          ∙ ap (max_abs_to v) further,
    )

pub returns : goal.returns
unfolding max_change
returns c =
    let a = c.args in
    let all : min c.loop-from.from a.n ≡ a.n = omega arith in
    c.loop-from.invariant.2
    ∙ ap (max_abs_to (λ i. change_to (read_of a.matrix.now a.bits.now a.n) a.before.now a.after.now i (length a.before.now))) all

-- the last block ends the rows
pub returns-2 : goal.returns-2
unfolding max_change
returns-2 c =
    let a = c.args in
    let l = c.loop-from in
    let k = c.block_length-k in
    let v : ℕ → Float = λ i. change_to (read_of a.matrix.now a.bits.now a.n) a.before.now a.after.now i (length a.before.now) in
    let so_far : min l.from a.n ≡ l.from = omega arith in
    let all : l.from + k.result ≡ a.n = omega (arith, k.ensures) in
    c.largest_from-most.ensures
    ∙ max_block v l.from k.result l.most _ (l.invariant.2 ∙ ap (max_abs_to v) so_far)
    (front_back k.result l.block c.changes_into.new.block (λ i. v (l.from + i)) (omega arith) c.changes_into.ensures)
    ∙ ap (max_abs_to v) all
