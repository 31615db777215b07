-- `votefaults::all_labels` meets its contract: after i turns it says whether the first i labels pass.
use mathlib.Core.Path.{◌≡◌, refl, ap}
use mathlib.Core.Bool.{◌&&◌}
use native.Mathlib.Omega.{arith}
use native.Mathlib.Numerals.{add-one}
use lib.IntN.{ℤ, pos}
use mir.Syntax.{w8}
use mir.Facts.{to_z-of_z}
use lib.ListN.{length, get_or}
use Rattle.seq.specs.Keep.{all_to}
use Rattle.votefaults.specs.Votes.{is_label}
use Rattle.votefaults.proofs.all_labels.Goals as goal

pub loop-y-init : goal.loop-y-init
unfolding all_to
loop-y-init c = refl

pub loop-y-preserved : goal.loop-y-preserved
unfolding all_to
loop-y-preserved c =
    let labels = c.args.labels.now in
    let read : ℤ = get_or labels c.loop-y.y-index (pos 0) in
    rw (add-one, c.loop-y.invariant, c.is_label-ok.ensures)
    (ap (λ (y : ℤ). all_to (λ k. is_label (get_or labels k (pos 0))) c.loop-y.y-index && is_label y)
    (to_z-of_z {w = w8} {z = read} (record { sfits = search })))

pub returns : goal.returns
returns c =
    let done : c.loop-y.y-index ≡ length c.args.labels.now = omega arith in
    rw (← done) c.loop-y.invariant
