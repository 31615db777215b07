-- A column of bits that is scaled, row by row: what it adds is a number that its bits sign.
use borrow.Author.Tests.{lt-ltb, le-ltb}
use Prim.Native.Nat.{ℕ, ◌≤◌, ◌<◌}
use mathlib.Core.Path.{◌≡◌, sym, ap, ◌∙◌}
use mathlib.Core.Bool.{Bool, true, false}
use mathlib.Core.List.{List}
use lib.Dec.{T, ltb}
use lib.Ieee.{Float, binary64, neg, add, sub, mul, fits}
use Rattle.seq.specs.Choice.{pick}
use Rattle.seq.specs.Sums.{at}
use Rattle.ieee.specs.Magnitude.{abs_of}
use Rattle.ieee.specs.Units.{sign}
use Rattle.limits.specs.Votes.{bit_at, vote_at}
use Rattle.columns.specs.Kernels.{plus_column, plus_columns, plus_squares, less_column}
use Rattle.votes.specs.Signing.{signed_by, signed_at, signed_two}
use Rattle.votes.proofs.Turning.{vote_times, vote_product, times_vote, vote_less, signed-square, abs_signed}
use Rattle.staying.specs.Scaling.{scaled_votes}

module _ (column : List ℕ) (n : ℕ) (s : Float) (good : T (fits binary64 s)) where
  pub votes_own : (i : ℕ) → i < n → scaled_votes column n s i ≡ mul binary64 (vote_at column i) s
  votes_own i h = rw (lt-ltb i n h)

  -- the entry under the rows
  pub votes_under : (i : ℕ) → n ≤ i → scaled_votes column n s i ≡ abs_of s
  votes_under i h = rw (le-ltb i n h)

  pub votes_plus : (g : Float) (acc : List Float) (i : ℕ) → i < n → signed_at column (mul binary64 s g) acc i ≡ plus_column (scaled_votes column n s) g acc i
  votes_plus g acc i h = sym (ap (λ (z : Float). add binary64 (at acc i) (mul binary64 z g)) (votes_own i h)
      ∙ ap (add binary64 (at acc i)) (vote_product binary64 (bit_at column i) s g good))

  pub votes_less : (t : Float) (ax : List Float) (i : ℕ) → i < n → signed_at column (neg (mul binary64 t s)) ax i ≡ less_column (scaled_votes column n s) t ax i
  votes_less t ax i h = sym (ap (λ (z : Float). sub binary64 (at ax i) (mul binary64 t z)) (votes_own i h)
      ∙ vote_less binary64 (bit_at column i) (at ax i) t s good)

  -- one row of it, where x is t s, signed by the bit
  pub votes_row : (t : Float) (ax : List Float) (i : ℕ) (x : Float) → i < n → x ≡ signed_by (bit_at column i) (mul binary64 t s) → sub binary64 (at ax i) x
      ≡ less_column (scaled_votes column n s) t ax i
  votes_row t ax i x h e = ap (sub binary64 (at ax i)) (e ∙ sym (ap (mul binary64 t) (votes_own i h) ∙ times_vote binary64 (bit_at column i) t s good))

  -- every row takes the same square: one number serves all of them
  pub votes_square : (acc : List Float) (i : ℕ) → plus_squares (scaled_votes column n s) acc i ≡ add binary64 (at acc i) (mul binary64 s s)
  votes_square acc i = ap (add binary64 (at acc i)) (go (ltb i n))
    where
      go : (t : Bool) → mul binary64 (pick t (mul binary64 (vote_at column i) s) (abs_of s)) (pick t (mul binary64 (vote_at column i) s) (abs_of s))
          ≡ mul binary64 s s
      go true = ap (λ (z : Float). mul binary64 z z) (vote_times binary64 (bit_at column i) s good) ∙ signed-square binary64 (bit_at column i) s
      go false = ap (λ (z : Float). mul binary64 z z) (abs_signed s) ∙ signed-square binary64 (sign s) s

pub votes_plus_two : (first second : List ℕ) (n : ℕ) (s g t h : Float) → T (fits binary64 s) → T (fits binary64 t) → (acc : List Float) (i : ℕ) → i < n
    → signed_two first (mul binary64 s g) second (mul binary64 t h) acc i ≡ plus_columns (scaled_votes first n s) g (scaled_votes second n t) h acc i
votes_plus_two first second n s g t h p q acc i l =
    sym
    (ap (λ (z : Float). add binary64 (add binary64 (at acc i) (mul binary64 z g)) (mul binary64 (scaled_votes second n t i) h)) (votes_own first n s p i l)
    ∙ ap (λ (z : Float). add binary64 (add binary64 (at acc i) z) (mul binary64 (scaled_votes second n t i) h)) (vote_product binary64 (bit_at first i) s g p)
    ∙ ap (add binary64 (add binary64 (at acc i) (signed_by (bit_at first i) (mul binary64 s g))))
    (ap (λ (z : Float). mul binary64 z h) (votes_own second n t q i l) ∙ vote_product binary64 (bit_at second i) t h q))
