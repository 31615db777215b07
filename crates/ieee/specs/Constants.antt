-- The doubles 1, -1 and 2, each by its bits.
use Rattle.std.specs.Prelude.{Float}
use Rattle.std.specs.Float.{binary64}
use Rattle.std.specs.Float.Ieee.{of_bits}

abbrev pub one : Float
one = of_bits binary64 0x3FF0_0000_0000_0000

abbrev pub minus_one : Float
minus_one = of_bits binary64 0xBFF0_0000_0000_0000

abbrev pub two : Float
two = of_bits binary64 0x4000_0000_0000_0000
