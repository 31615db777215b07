-- The premises are met, and the law is at its edge: x = -0.75 with a direction near the largest double, whose reach is subnormal; and with an infinite one.
use mathlib.Core.Path.{◌≡◌, refl}
use mathlib.Core.Bool.{true, false}
use lib.IntN.{pos, negsuc}
use lib.Ieee.{Float, inf, fin, add, sub, mul, div, neg, lt, eq, fits, is_nan, of_bits}
use Rattle.reaching.specs.Reaching.{Free, Reached, led_to}
use Rattle.reaching.proofs.Reach.{reaches}

abbrev pub x : Float
x = fin true 3 (negsuc 1)

abbrev pub g : Float
g = fin false 3 (pos 1022)

premises : Free x g
unfolding fits lt eq div sub add neg of_bits
premises = record { held = tt; inside = tt; g_held = tt; g_ends = tt; g_some = tt; q_ends = tt }

pub there : Reached x g
there = reaches premises

-- an infinite direction has the reach 0, and the step makes a NaN
pub lost : is_nan (led_to (fin true 3 (negsuc 1)) (inf false)) ≡ true
unfolding add mul div sub neg is_nan
lost = refl
