-- The indices that pass a test, in order, how many they are, and whether all do.
use Rattle.std.specs.Prelude.{ℕ, zero, suc, Bool, true, ◌&&◌, List, [], ◌∷◌, ◌++◌}
use Rattle.seq.specs.Choice.{pick}

-- of 0, .., k - 1 those that pass
unfoldable pub keep : (ℕ → Bool) → ℕ → List ℕ
keep f zero = []
keep f (suc k) = let r : List ℕ = keep f k in pick (f k) (r ++ (k ∷ [])) r

-- how many of 0, .., k - 1 pass
unfoldable pub count : (ℕ → Bool) → ℕ → ℕ
count f zero = 0
count f (suc k) = let r : ℕ = count f k in pick (f k) (suc r) r

-- every one of 0, .., k - 1 passes
unfoldable pub all_to : (ℕ → Bool) → ℕ → Bool
all_to f zero = true
all_to f (suc k) = all_to f k && f k
