-- `polls::discrepancy_coloring_bits` meets its contract: a refusal changes nothing, and else the arguments are `Accepted` and each call leaves its part
-- of the outcome.
use lib.Seq.{length-take-le}
use Rattle.seq.specs.Keep.{all_to}
use Rattle.pollfaults.proofs.Accepted.{accepted}
use Rattle.colorfaults.proofs.Fronts.{front_back, back_long}
use Rattle.colorfaults.proofs.Outcomes.{colours_at}
use Rattle.limits.proofs.ReadsAs.{bits-whole}
use Rattle.pollfaults.proofs.Outcomes.{refused, coloured}
use Rattle.refusal.proofs.Reasons.{given}
use mathlib.Core.Path.{refl, sym, ◌∙◌}
use mathlib.Core.List.{List}
use lib.Ieee.{Float}
use Rattle.polls.proofs.discrepancy_coloring_bits.Goals as goal

pub returns-in-Err : goal.returns-in-Err
returns-in-Err c = refused _ _ _ _ _ _ _ _ (c.number.ensures ∙ c.in-Err.ensures) (given _ _ c.number.ensures)

pub slice_bounds-x-end : goal.slice_bounds-x-end
slice_bounds-x-end c = (accepted _ _ _ _ _ _ (sym c.in_default.ensures)).columns

pub slice_bounds-color_all-end-2 : goal.slice_bounds-color_all-end-2
slice_bounds-color_all-end-2 c =
    sym (length-take-le _ _ (accepted _ _ _ _ _ _ (sym c.in_default.ensures)).columns)

pub color_all-c-requires : goal.color_all-c-requires
unfolding all_to
color_all-c-requires c =
    let a = accepted _ _ _ _ _ _ (sym c.in_default.ensures) in
    record {
      whole = bits-whole _ _ _ a.area;
      columns = a.columns;
      rows = a.rows;
      colours = length-take-le _ _ a.columns;
      floats = a.floats;
      words = a.words;
      within = refl;
    }

pub slice_bounds-x-end-2 : goal.slice_bounds-x-end-2
slice_bounds-x-end-2 c =
    back_long _ c.color_all-c.new.x _
    (accepted _ _ _ _ _ _ (sym c.in_default.ensures)).columns
    c.color_all-c.auto.x

pub slice_bounds-write_colours-end : goal.slice_bounds-write_colours-end
slice_bounds-write_colours-end c =
    sym
    (length-take-le _ _
    (back_long _ c.color_all-c.new.x _
    (accepted _ _ _ _ _ _ (sym c.in_default.ensures)).columns
    c.color_all-c.auto.x))

pub write_colours-requires : goal.write_colours-requires
write_colours-requires c =
    let a = accepted _ _ _ _ _ _ (sym c.in_default.ensures) in
    a.colours ∙ sym (length-take-le _ _ (back_long _ c.color_all-c.new.x _ a.columns
    c.color_all-c.auto.x))

pub returns : goal.returns
returns c =
    let e = sym c.in_default.ensures in
    let a = accepted _ _ _ _ _ _ e in
    let x : List Float = c.color_all-c.new.x in
    let kept = c.color_all-c.auto in
    coloured _ _ _ _ _ _ _ _ _ _ _ c.color_all-c.result e a.area
    (colours_at (front_back _ x _ a.columns kept.x) c.color_all-c.ensures)
    (length-take-le _ _ (back_long _ x _ a.columns kept.x))
    c.write_colours.ensures
    (c.fill.ensures ∙ rw kept.numbers)
    (c.fill-2.ensures ∙ rw kept.indices)
