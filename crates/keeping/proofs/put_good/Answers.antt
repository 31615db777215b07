-- `keeping::put_good` meets its contract: three pieces side by side.
use Rattle.fields.proofs.Widths.{length-count, width_most}
use Rattle.keeping.proofs.Fronts.{back_is, good_wrote}
use Prim.Native.Nat.{ℕ, ◌+◌, ◌-◌}
use mathlib.Core.Path.{ap, ◌∙◌}
use native.Mathlib.Omega.{arith}
use lib.ListN.{length-drop, length, take, drop}
use Rattle.keeping.proofs.put_good.Goals as goal

pub put_count-b-requires : goal.put_count-b-requires
put_count-b-requires c =
    omega (arith, width_most c.args.kept, c.put_word-a.ensures.ends)

pub slice_bounds-put_word-count : goal.slice_bounds-put_word-count
slice_bounds-put_word-count c =
    omega (arith, c.width_at-place.ensures, c.requires.0)

pub put_word-requires : goal.put_word-requires
put_word-requires c =
    let sheet = c.args.sheet.now in
    let place = (5 + c.width_at-place.result) in
    omega (
      arith,
      ap length (back_is place sheet),
      length-drop place sheet,
      length-count c.args.kept,
      width_most c.args.kept,
      c.put_word-a.ensures.ends,
      c.put_count-b.ensures.ends,
      c.put_word-a.auto.out,
      c.put_count-b.auto.out,
      c.requires.1,
    )

pub returns : goal.returns
returns c =
    let sheet = c.args.sheet.now in
    let place = (5 + c.width_at-place.result) in
    good_wrote c.args.kept sheet (take (length sheet - place) (drop place sheet)) c.requires.1 c.put_word-a.auto.out
    c.put_word-a.ensures c.put_count-b.ensures c.put_word.ensures
    (back_is place sheet ∙ ap (λ (k : ℕ). drop (5 + k) sheet) c.width_at-place.ensures)
