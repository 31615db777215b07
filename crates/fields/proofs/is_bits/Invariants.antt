-- `fields::is_bits` meets its contract: after k turns it says whether the first k bytes are digits of base 16.
use Prim.Native.Nat.{◌+◌}
use mathlib.Core.Bool.{◌||◌}
use mathlib.Core.Path.{◌≡◌}
use Rattle.seq.specs.Keep.{all_to}
use Rattle.fields.specs.Bytes.{byte_at}
use Rattle.fields.specs.Digits.{is_digit, is_letter}
use Rattle.fields.proofs.is_bits.Given as goal

abbrev pub invariant-loop-k : goal.invariant-loop-k
invariant-loop-k l = l.ok ≡ all_to (λ j. is_digit (byte_at l.text (l.at + j)) || is_letter (byte_at l.text (l.at + j))) l.k
