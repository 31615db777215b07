-- What a halving does beside the colouring.
use Rattle.std.specs.Prelude.{ℕ, zero, suc, ◌*◌, Bool, List, [], ◌∷◌, ◌++◌, leb, length, get_or, set, Float}
use Rattle.std.specs.Float.{binary64}
use Rattle.std.specs.Float.Ieee.{div, mul, eq, lt}
use Rattle.seq.specs.Choice.{pick}
use Rattle.seq.specs.Sums.{plus_zero, at}
use Rattle.seq.specs.Keep.{count}
use Rattle.ieee.specs.Constants.{one, minus_one, two}
use Rattle.weights.specs.Weights.{is_on}

-- of the first k of some indices those that pass, in order
unfoldable pub those_to : (ℕ → Bool) → List ℕ → ℕ → List ℕ
those_to f xs zero = []
those_to f xs (suc k) =
    let r : List ℕ = those_to f xs k in
    pick (f (get_or xs k 0)) (r ++ (get_or xs k 0 ∷ [])) r

-- the indices of the rest whose weights are not 0
abbrev pub remaining : List Float → List ℕ → List ℕ
remaining w rest = those_to (is_on w) rest (length rest)

-- the weight of the p-th of some indices over ω
abbrev pub scale_at : List Float → Float → List ℕ → ℕ → Float
scale_at w omega rest p = div binary64 (at w (get_or rest p 0)) omega

-- the colour of at most half of them: 1.0 if at most half are above 0, and else -1.0
abbrev pub sigma_of : List Float → Float
sigma_of x = pick (leb (2 * count (λ p. lt plus_zero (at x p)) (length x)) (length x)) one minus_one

-- w with the weights at the first k of some indices doubled where their colour is σ, and 0.0 elsewhere
unfoldable pub halved_to : List Float → List ℕ → List Float → Float → ℕ → List Float
halved_to w rest x sigma zero = w
halved_to w rest x sigma (suc k) =
    let v : List Float = halved_to w rest x sigma k in
    let j : ℕ = get_or rest k 0 in
    set v j (pick (eq (at x k) sigma) (mul binary64 two (at v j)) plus_zero)
