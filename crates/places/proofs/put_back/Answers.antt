-- `places::put_back` meets its contract: after some turns the first values are back at their places.
use Prim.Native.Nat.{◌+◌, ◌<◌}
use mathlib.Core.Path.{◌≡◌, refl}
use mathlib.Core.List.{[], ◌∷◌, ◌++◌}
use native.Mathlib.Omega.{arith}
use lib.ListN.{length, length-append}
use Rattle.std.proofs.Common.{rules}
use Rattle.std.proofs.lemmas.Slice.Zip.{zip_turn, zip_end}
use Rattle.places.specs.Places.{put_back}
use Rattle.places.proofs.Places.{put-more}
use Rattle.places.proofs.put_back.Given.{Over}
use Rattle.places.proofs.put_back.Goals as goal
use Rattle.places.proofs.put_back.Goals.{In-Some}

-- the place of a turn is inside
inside : (g : Over) (c : In-Some g) → c.in-Some.j.now < length c.args.v.now
inside g c =
    let a = c.args in
    let here = zip_turn a.places.now a.values.now c.loop-j.yielded c.into_iter-j-iterator.result c.loop-j.j-iterator c.next.new.self c.next.result
    (search rules) (search rules) c.loop-j.yielded_by (c.in-Some.j, c.in-Some.value) c.in-Some.is c.next.ensures.steps in
    rw (here.2 0) (c.requires.1.below _ here.0)

pub offset_bounds-v-j : goal.offset_bounds-v-j
offset_bounds-v-j g c = let b = inside g (goal.at.offset_bounds-v-j g c).In-Some in search rules

pub bounds-v-j : goal.bounds-v-j
bounds-v-j g c = let b = inside g (goal.at.bounds-v-j g c).In-Some in omega arith

pub loop-j-init : goal.loop-j-init
unfolding put_back
loop-j-init g c = ((tt, tt), tt, λ d. refl)

pub loop-j-preserved : goal.loop-j-preserved
loop-j-preserved g c =
    let a = c.args in
    let l = c.loop-j in
    let p = length l.yielded in
    let here = zip_turn a.places.now a.values.now l.yielded c.into_iter-j-iterator.result l.j-iterator c.next.new.self c.next.result
    (search rules) (search rules) l.yielded_by (c.in-Some.j, c.in-Some.value) c.in-Some.is c.next.ensures.steps in
    let more : length (l.yielded ++ ((c.in-Some.j, c.in-Some.value) ∷ [])) ≡ p + 1 = length-append l.yielded _ in
    ((tt, tt), tt, λ d. rw (more, here.2 0, here.3 d) (put-more d d a.places.now a.values.now a.v.now l.v p here.1 (l.invariant.2 d)))

pub returns : goal.returns
returns g c =
    let a = c.args in
    let l = c.loop-j in
    let all = zip_end a.places.now a.values.now l.yielded c.into_iter-j-iterator.result l.j-iterator c.next.new.self c.next.result
    (search rules) (search rules) l.yielded_by c.in-None.is c.next.ensures.steps in
    let done : length l.yielded ≡ length a.places.now = omega arith in
    λ d. rw (← done) (l.invariant.2 d)
