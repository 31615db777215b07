-- `gathering::take_byte` meets its contract: by whether the byte ends a line, and which.
use lib.Seq.{length-take-le}
use native.Mathlib.Nat.{add-sub_cancel_left}
use Rattle.seq.specs.Lists.{part}
use Rattle.gathering.proofs.Bytewise.{reach}
use Rattle.gathering.proofs.Parted.{took_within, took_first, took_later, held-most, part-most}
use Prim.Native.Nat.{ℕ, ◌+◌, ◌-◌, ◌≤◌}
use mathlib.Core.Path.{sym, ap}
use native.Mathlib.Omega.{arith}
use lib.ListN.{length}
use Rattle.gathering.proofs.take_byte.Goals as goal

pub hold-long-requires : goal.hold-long-requires
hold-long-requires c =
    let fit = reach c.requires.0.holds in
    (fit.room_left, fit.long)

pub returns-then-b-ne10 : goal.returns-then-b-ne10
returns-then-b-ne10 c =
    took_within _ _ _ _ _ _ c.hold-long.ensures c.if-b-ne10.true

pub overflow_add-end : goal.overflow_add-end
overflow_add-end c =
    let h = c.args.s in
    let fit = reach c.requires.0.holds in
    let long = held-most h c.args.room.now c.args.b c.hold-long.result c.hold-long.new.room
    c.hold-long.ensures fit.long in
    omega (arith, long.0, fit.ends)

pub slice_bounds-first_line-end : goal.slice_bounds-first_line-end
slice_bounds-first_line-end c =
    let h = c.args.s in
    let fit = reach c.requires.0.holds in
    let long = held-most h c.args.room.now c.args.b c.hold-long.result c.hold-long.new.room
    c.hold-long.ensures fit.long in
    omega (arith, long.0, long.1, fit.room_left)

pub slice_bounds-first_line-end-then-s-eq0 : goal.slice_bounds-first_line-end-then-s-eq0
slice_bounds-first_line-end-then-s-eq0 c =
    let h = c.args.s in
    let fit = reach c.requires.0.holds in
    let long = held-most h c.args.room.now c.args.b c.hold-long.result c.hold-long.new.room
    c.hold-long.ensures fit.long in
    sym (length-take-le _ _ (omega (arith, long.0, long.1, fit.room_left)))

pub returns-then-s-eq0 : goal.returns-then-s-eq0
returns-then-s-eq0 c =
    took_first _ _ _ _ _ _ c.hold-long.ensures _ c.if-b-ne10.false c.if-s-eq0.true c.first_line.ensures

pub slice_bounds-later_line-end : goal.slice_bounds-later_line-end
slice_bounds-later_line-end c =
    let h = c.args.s in
    let fit = reach c.requires.0.holds in
    let long = held-most h c.args.room.now c.args.b c.hold-long.result c.hold-long.new.room
    c.hold-long.ensures fit.long in
    omega (arith, long.0, long.1, fit.room_left)

pub later_line-requires : goal.later_line-requires
later_line-requires c =
    let h = c.args.s in
    let fit = reach c.requires.0.holds in
    let long = held-most h c.args.room.now c.args.b c.hold-long.result c.hold-long.new.room
    c.hold-long.ensures fit.long in
    let start = h.end in
    let part_long : length (part start (start + c.hold-long.result - start) c.hold-long.new.room) ≤ 1110 =
    rw (add-sub_cancel_left start c.hold-long.result) (omega (arith, long.0, part-most start c.hold-long.result c.hold-long.new.room)) in
    record {
      rows = fit.rows;
      columns = fit.columns;
      marked = c.requires.0.holds.marked;
      lines = c.requires.1;
      ends = omega (arith, fit.ends);
      many = fit.many;
      short = part_long;
    }

pub returns : goal.returns
returns c =
    let start = c.args.s.end in
    took_later _ _ _ _ _ _ c.hold-long.ensures _ _ _ c.if-b-ne10.false (omega (arith, c.if-s-eq0.false))
    (ap (λ (x : ℕ). part start x c.hold-long.new.room) (add-sub_cancel_left start c.hold-long.result)) c.later_line.ensures
