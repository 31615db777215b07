-- Told between functions: what the pieces of local search leave. A flip answers the largest magnitude of A x after it, and no flip answers None.
use Rattle.std.specs.Prelude.{ℕ, ◌≡◌, true, false, List, Float, Option}
use Rattle.std.specs.Option.{is_some, unwrap_or, MatchOption}
use Rattle.flipping.specs.Search.{Search, improves, flipped, swept_of, Searched}

-- the search that two vectors hold before a sweep, with its largest magnitude
abbrev pub unswept : List Float → List Float → Float → Search
unswept x ax best = record { x = x; ax = ax; best = best; improved = false }

-- the search that they hold in one, where the last flip answered r
abbrev pub search_of : List Float → List Float → Float → Option Float → Search
search_of x ax best r = record { x = x; ax = ax; best = unwrap_or r best; improved = is_some r }

-- column j was tried, and it left x and ax and answered r
pub record Tried (column : ℕ → Float) (j : ℕ) (s : Search) (x ax : List Float) (r : Option Float) : Type 0 where
  pub is : MatchOption r
      ((improves column s j ≡ false) × (x ≡ s.x) × (ax ≡ s.ax))
      (λ best. (improves column s j ≡ true) × (record { x = x; ax = ax; best = best; improved = true } ≡ flipped column s j))

-- k columns were swept, from x and A x and its largest magnitude
pub record Swept (a : ℕ → ℕ → Float) (k : ℕ) (x ax : List Float) (best : Float) (t : Search) : Type 0 where
  pub is : t ≡ swept_of a k (unswept x ax best)

-- what a vector and a count of sweeps hold
abbrev pub searched_in : List Float → ℕ → Searched
searched_in x sweeps = record { x = x; sweeps = sweeps }
