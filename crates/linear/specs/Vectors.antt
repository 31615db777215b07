-- The running sum of products, the norm, and the largest magnitude of a vector. z is what a sum starts from.
use Rattle.std.specs.Prelude.{List, length, Float}
use Rattle.seq.specs.Sums.{sum_to, at, product}
use Rattle.ieee.specs.Magnitude.{max_abs_to}
use Rattle.root.specs.Root.{sqrt_of}

-- the sum of the products, in order
unfoldable pub dot_of : Float → List Float → List Float → Float
dot_of z a b = sum_to z (product a b) (length a)

-- the root of the sum of the squares
unfoldable pub norm_of : Float → List Float → Float
norm_of z a = sqrt_of (dot_of z a a)

-- the largest magnitude of its entries
abbrev pub max_abs_of : List Float → Float
max_abs_of a = max_abs_to (at a) (length a)
