-- `doubling::double_or_zero` meets its contract: after some turns the weights are halved at the first of the indices.
use Prim.Native.Nat.{◌+◌}
use mathlib.Core.Path.{◌≡◌, refl}
use mathlib.Core.List.{[], ◌∷◌, ◌++◌}
use native.Mathlib.Omega.{arith}
use lib.Ieee.{nan}
use lib.ListN.{length, length-append}
use Rattle.std.proofs.Common.{rules}
use Rattle.std.proofs.lemmas.Slice.Zip.{zip_turn, zip_end}
use Rattle.doubling.specs.Doubling.{halved_to}
use Rattle.doubling.proofs.Turns.{doubles, zeroes}
use Rattle.doubling.proofs.double_or_zero.Goals as goal
use Rattle.doubling.proofs.double_or_zero.Goals.{then-c-sigma, else-c-sigma}

pub loop-j-init : goal.loop-j-init
unfolding halved_to
loop-j-init c = refl

pub loop-j-preserved : goal.loop-j-preserved
loop-j-preserved c =
    let a = c.args in
    let l = c.loop-j in
    let p = length l.yielded in
    let here = zip_turn a.rest.now a.x.now l.yielded c.into_iter-j-iterator.result l.j-iterator c.next.new.self c.next.result
    (search rules) (search rules) l.yielded_by (c.in-Some.j, c.in-Some.c) c.in-Some.is c.next.ensures.steps in
    let more : length (l.yielded ++ ((c.in-Some.j, c.in-Some.c) ∷ [])) ≡ p + 1 = length-append l.yielded _ in
    elim c.if-c-sigma.branch [
      | then-c-sigma w ↦
          rw (w.w-is, more, here.2 0, doubles a.w.now a.rest.now a.x.now a.sigma p (rw (here.3 nan) at w.if-c-sigma.true), ← l.invariant)
      | else-c-sigma w ↦
          rw (w.w-is, more, here.2 0, zeroes a.w.now a.rest.now a.x.now a.sigma p (rw (here.3 nan) at w.if-c-sigma.false), ← l.invariant)
    ]

pub returns : goal.returns
returns c =
    let a = c.args in
    let l = c.loop-j in
    let all = zip_end a.rest.now a.x.now l.yielded c.into_iter-j-iterator.result l.j-iterator c.next.new.self c.next.result
    (search rules) (search rules) l.yielded_by c.in-None.is c.next.ensures.steps in
    let done : length l.yielded ≡ length a.rest.now = omega arith in
    rw (← done) l.invariant
