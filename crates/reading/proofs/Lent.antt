-- A column that is lent by itself, as doubles or as bits, is the matrix's column.
use borrow.Author.Tests.{lt-ltb, le-ltb}
use Prim.Native.Nat.{ℕ, ◌+◌, ◌*◌, ◌/◌, ◌%◌, ◌^◌, ◌≤◌, ◌<◌}
use mathlib.Core.Path.{◌≡◌, refl, sym, ap, ◌∙◌, fun_ext}
use mathlib.Core.Bool.{Bool, true, false}
use mathlib.Core.List.{List, [], ◌∷◌}
use native.Mathlib.Omega.{arith}
use lib.Dec.{T, ltb, ltb→lt}
use lib.ListN.{length, get_or}
use lib.Ieee.{Float, nan, binary64, neg, mul, fits}
use Rattle.seq.specs.Choice.{pick}
use Rattle.seq.specs.Lists.{part}
use Rattle.seq.specs.Sums.{at}
use Rattle.seq.proofs.Parts.{length_part, get_d_part}
use Rattle.ieee.specs.Magnitude.{abs_of}
use Rattle.ieee.specs.Units.{sign}
use Rattle.limits.specs.Votes.{bit_at, vote_at, bytes_of}
use Rattle.limits.specs.Reading.{read_of}
use Rattle.limits.proofs.ReadsAs.{reads_doubles, reads_votes}
use Rattle.columns.specs.Columns.{scaled_at}
use Rattle.votes.proofs.Bytes.{either_row}
use Rattle.votes.proofs.Turning.{vote_times, signed-square, abs_signed}
use Rattle.staying.specs.Scaling.{scaled_by, scaled_votes}

-- entries that agree in the rows agree everywhere
pub scaled_cong : (f g : ℕ → Float) (n : ℕ) (s : Float) (i : ℕ) → (i < n → f i ≡ g i) → scaled_by f n s i ≡ scaled_by g n s i
scaled_cong f g n s i h = go (ltb i n) (λ t. h (ltb→lt i n t))
  where
    go : (t : Bool) → (T t → f i ≡ g i) → pick t (mul binary64 (f i) s) (abs_of s) ≡ pick t (mul binary64 (g i) s) (abs_of s)
    go true k = ap (λ (z : Float). mul binary64 z s) (k tt)
    go false k = refl

module _ (f : ℕ → Float) (n : ℕ) (s : Float) (i : ℕ) where
  pub read_own : i < n → scaled_by f n s i ≡ mul binary64 (f i) s
  read_own h = rw (lt-ltb i n h)

  pub read_under : n ≤ i → scaled_by f n s i ≡ abs_of s
  read_under h = rw (le-ltb i n h)

vote_part : (bits : List ℕ) (a n i : ℕ) → i < n → vote_at (part a (bytes_of n) bits) i ≡ vote_at bits (8 * a + i)
vote_part bits a n i h =
    let q : (8 * a + i) / 8 ≡ a + i / 8 = omega arith in
    let r : (8 * a + i) % 8 ≡ i % 8 = omega arith in
    rw (q, r, get_d_part a (bytes_of n) (i / 8) bits 0 (omega arith))

module _ (matrix : List Float) (bits : List ℕ) (n : ℕ) where
  pub doubles_are : (j : ℕ) (s : Float) → length bits ≡ 0 → j * n + n ≤ length matrix
      → scaled_at (part (j * n) n matrix) s ≡ scaled_by (read_of matrix bits n j) n s
  doubles_are j s e h =
      fun_ext
      (λ i. ap (λ (k : ℕ). scaled_by (at (part (j * n) n matrix)) k s i) (length_part (j * n) n matrix h)
      ∙ scaled_cong (at (part (j * n) n matrix)) (read_of matrix bits n j) n s i
      (λ l. get_d_part (j * n) n i matrix nan l ∙ sym (reads_doubles matrix bits n e j i)))

  pub votes_are : (j : ℕ) (s : Float) → 0 < length bits
      → scaled_votes (part (j * bytes_of n) (bytes_of n) bits) n s ≡ scaled_by (read_of matrix bits n j) n s
  votes_are j s h =
      fun_ext
      (λ i. scaled_cong (vote_at (part (j * bytes_of n) (bytes_of n) bits)) (read_of matrix bits n j) n s i
      (λ l. vote_part bits (j * bytes_of n) n i l ∙ sym (reads_votes matrix bits n h j i)))

  -- one entry, from its byte and its bit
  pub vote_entry : (j i b u : ℕ) (s : Float) → 0 < length bits → T (fits binary64 s) → i < n → b ≡ get_or bits (j * bytes_of n + i / 8) 0
      → u ≡ b / 2 ^ (i % 8) % 2 → at (s ∷ neg s ∷ []) u ≡ scaled_by (read_of matrix bits n j) n s i
  vote_entry j i b u s some good l e d =
      let k = 8 * (j * bytes_of n) + i in
      let q : k / 8 ≡ j * bytes_of n + i / 8 = omega arith in
      let r : k % 8 ≡ i % 8 = omega arith in
      either_row s bits k b u (e ∙ ap (λ (z : ℕ). get_or bits z 0) (sym q)) (d ∙ ap (λ (z : ℕ). b / 2 ^ z % 2) (sym r))
      ∙ sym (vote_times binary64 (bit_at bits k) s good)
      ∙ sym (read_own (read_of matrix bits n j) n s i l ∙ ap (λ (x : Float). mul binary64 x s) (reads_votes matrix bits n some j i))

  -- the square of every entry of a column of bits, of |s| under them too, is that of s
  pub votes_square : (j : ℕ) (s : Float) → T (fits binary64 s) → 0 < length bits → (i : ℕ)
      → mul binary64 (scaled_by (read_of matrix bits n j) n s i) (scaled_by (read_of matrix bits n j) n s i) ≡ mul binary64 s s
  votes_square j s good h i = go (ltb i n)
    where
      go : (t : Bool) → mul binary64 (pick t (mul binary64 (read_of matrix bits n j i) s) (abs_of s))
          (pick t (mul binary64 (read_of matrix bits n j i) s) (abs_of s)) ≡ mul binary64 s s
      go true = ap (λ (z : Float). mul binary64 (mul binary64 z s) (mul binary64 z s)) (reads_votes matrix bits n h j i)
          ∙ ap (λ (z : Float). mul binary64 z z) (vote_times binary64 (bit_at bits (8 * (j * bytes_of n) + i)) s good)
          ∙ signed-square binary64 (bit_at bits (8 * (j * bytes_of n) + i)) s
      go false = ap (λ (z : Float). mul binary64 z z) (abs_signed s) ∙ signed-square binary64 (sign s) s
