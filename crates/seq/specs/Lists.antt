-- Lists by index, and parts of a list.
use Rattle.std.specs.Prelude.{ℕ, zero, suc, List, [], ◌∷◌, ◌++◌, take, drop}

-- f 0, f 1, .., f (k - 1)
unfoldable pub tabulate : {A : Type 0} → (ℕ → A) → ℕ → List A
tabulate f zero = []
tabulate f (suc k) = tabulate f k ++ (f k ∷ [])

-- x, k times
abbrev pub repeated : {A : Type 0} → A → ℕ → List A
repeated x k = tabulate (λ i. x) k

-- k elements of xs from a
abbrev pub part : {A : Type 0} → ℕ → ℕ → List A → List A
part a k xs = take k (drop a xs)

-- xs with ys in the place of the k elements from a
abbrev pub placed : {A : Type 0} → ℕ → ℕ → List A → List A → List A
placed a k xs ys = take a xs ++ (ys ++ drop k (drop a xs))
