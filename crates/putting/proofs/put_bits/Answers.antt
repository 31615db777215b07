-- `putting::put_bits` meets its contract: the lent part, sixteen bytes, comes back as the digits.
use native.Mathlib.Nat.{add-sub_cancel_left}
use Rattle.putting.proofs.Written.{put_digits}
use Rattle.fields.proofs.Puts.{on_bits}
use Prim.Native.Nat.{ℕ, ◌+◌, ◌-◌}
use mathlib.Core.Path.{refl}
use Rattle.putting.proofs.put_bits.Goals as goal

pub returns : goal.returns
returns c =
    let at : ℕ = c.args.at in
    on_bits c.args.x at c.args.out.now _ _ refl
    (put_digits 16 c.args.x at 16 (at + 16 - at) c.args.out.now _ c.requires (add-sub_cancel_left at 16)
    c.write_digits.ensures)
