-- Told between functions: what one that writes from the front of a buffer says of it.
use Rattle.std.specs.Prelude.{ℕ, ◌≡◌, List, length, take}

-- the text stands at the front of a buffer that is as long as before
pub record Wrote (text : List ℕ) (out : List ℕ) (r : ℕ) (out' : List ℕ) : Type 0 where
  pub long : r ≡ length text
  pub front : take r out' ≡ text
  pub same : length out' ≡ length out
