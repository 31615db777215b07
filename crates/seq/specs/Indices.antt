-- Told between functions: indices that are in range, and indices at the front of a buffer.
use Rattle.std.specs.Prelude.{ℕ, ◌≤◌, ◌<◌, ◌≡◌, List, length, get_or, take}

-- every index is below k
pub record Below (xs : List ℕ) (k : ℕ) : Type 0 where
  pub below : (p : ℕ) → p < length xs → get_or xs p 0 < k

-- the first n elements of v are xs, and xs is n long
pub record Pushed (xs : List ℕ) (n : ℕ) (v : List ℕ) : Type 0 where
  pub within : n ≤ length v
  pub front : take n v ≡ xs
  pub long : length xs ≡ n
