-- `listing::put_moves` meets its contract: the front of its array holds the weights, and then the normalized ones.
use lib.ListN.{length, replicate, drop}
use lib.Seq.{length-take-le}
use lib.Ieee.{Float}
use Rattle.weights.specs.Weights.{normalized}
use Rattle.seq.specs.Sums.{plus_zero}
use Rattle.wordlines.proofs.Listing.{words_from, back_there, back_whole, back_read}
use Prim.Native.Nat.{◌-◌, ◌≤◌}
use mathlib.Core.Path.{sym, ap, ◌∙◌}
use mathlib.Core.List.{List, ◌++◌}
use native.Mathlib.Omega.{arith}
use Rattle.listing.proofs.put_moves.Reads as reads
use Rattle.listing.proofs.put_moves.Lts as lts
use Rattle.seq.proofs.copy.Reads as copy-reads
use Rattle.weights.proofs.normalize.Reads as normalize-reads
use Rattle.listing.proofs.put_changes.Reads as put-changes-reads
use Rattle.listing.proofs.put_moves.Goals as goal

pub slice_bounds-copy-end : goal.slice_bounds-copy-end
slice_bounds-copy-end c = sym (length-take-le _ _ (omega (arith, c.requires.0)))

pub copy-requires : goal.copy-requires
copy-requires c =
    length-take-le _ _ (omega (arith, c.requires.0)) ∙ sym c.requires.2

pub slice_bounds-before-end-2 : goal.slice_bounds-before-end-2
slice_bounds-before-end-2 c =
    back_there _ c.copy.new.a _ c.copy.auto.a (omega (arith, c.requires.0))

pub slice_bounds-normalize-end : goal.slice_bounds-normalize-end
slice_bounds-normalize-end c =
    back_whole _ c.copy.new.a _ c.copy.auto.a (omega (arith, c.requires.0))

pub slice_bounds-before-end-3 : goal.slice_bounds-before-end-3
slice_bounds-before-end-3 c =
    back_there _ c.normalize.new.w _ c.normalize.auto.w
    (back_there _ c.copy.new.a _ c.copy.auto.a (omega (arith, c.requires.0)))

pub slice_bounds-put_changes-end : goal.slice_bounds-put_changes-end
slice_bounds-put_changes-end c =
    back_whole _ c.normalize.new.w _ c.normalize.auto.w
    (back_there _ c.copy.new.a _ c.copy.auto.a (omega (arith, c.requires.0)))

pub returns : goal.returns
returns c =
    let m = c.args.m in
    let copied : List Float = c.copy.new.a in
    let room : List Float = replicate 32 plus_zero in
    let inside : m ≤ length room = omega (arith, c.requires.0) in
    words_from c.args.matrix.now m c.args.n _ (normalized plus_zero c.args.weights.now) c.args.after.now
    (back_read m c.normalize.new.w (copied ++ drop m room) c.normalize.auto.w
    (back_there m copied room c.copy.auto.a inside)
    ∙ c.normalize.ensures
    ∙ ap (normalized plus_zero) (back_read m copied room c.copy.auto.a inside ∙ c.copy.ensures))
    c.put_changes.ensures
