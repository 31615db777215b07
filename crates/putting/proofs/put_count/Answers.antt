-- `putting::put_count` meets its contract: the lent part is as wide as the number.
use native.Mathlib.Nat.{add-sub_cancel_left}
use Rattle.fields.specs.Texts.{width_of}
use Rattle.putting.proofs.Written.{put_digits}
use Rattle.fields.proofs.Puts.{on_count}
use Prim.Native.Nat.{ℕ, ◌+◌, ◌-◌}
use mathlib.Core.Path.{ap, ◌∙◌}
use Rattle.putting.proofs.put_count.Goals as goal

pub returns : goal.returns
returns c =
    let at : ℕ = c.args.at in
    let x : ℕ = c.args.x in
    let wide = c.width_of in
    on_count x at c.args.out.now _ _ (ap (λ (n : ℕ). at + n) wide.ensures)
    (put_digits 10 x at (width_of x) (at + wide.result - at) c.args.out.now _ c.requires
    (add-sub_cancel_left at wide.result ∙ wide.ensures) c.write_digits.ensures)
