-- Laws of the rows of one column, as a block of them adds up, of doubles and of bits.
use Prim.Native.Nat.{ℕ, ◌+◌, ◌*◌, ◌/◌, ◌%◌, ◌≤◌, ◌<◌}
use mathlib.Core.Path.{◌≡◌, sym, ap, ◌∙◌}
use mathlib.Core.List.{List, ◌++◌}
use native.Mathlib.Omega.{arith}
use lib.Dec.{T}
use lib.ListN.{length, drop}
use lib.Ieee.{Float, nan, binary64, add, mul, fits}
use Rattle.seq.specs.Lists.{tabulate, part}
use Rattle.seq.specs.Sums.{at}
use Rattle.seq.proofs.Filling.{whole, tab_cong}
use Rattle.seq.proofs.Parts.{get_d_part}
use Rattle.limits.specs.Votes.{bit_at, bytes_of}
use Rattle.limits.specs.Reading.{read_of}
use Rattle.limits.proofs.ReadsAs.{reads_doubles, reads_votes}
use Rattle.votes.specs.Signing.{signed_at, signed_by, signed_two}
use Rattle.votes.proofs.Fronts.{front_as}
use Rattle.votes.proofs.Turning.{vote_times}
use Rattle.rows.specs.Blocks.{plus_at, plus_two_at, plus_rows, plus_two_rows}

module _ (matrix : List Float) (bits : List ℕ) (n from : ℕ) where
  -- a row of a part of a column of doubles
  double_row : (j k i : ℕ) → length bits ≡ 0 → i < k → at (part (j * n + from) k matrix) i ≡ read_of matrix bits n j (from + i)
  double_row j k i e h =
      let r : j * n + from + i ≡ j * n + (from + i) = omega arith in
      get_d_part (j * n + from) k i matrix nan h ∙ ap (at matrix) r ∙ sym (reads_doubles matrix bits n e j (from + i))

  -- the bits of a part that starts on a byte
  bit_part : (j a k i : ℕ) → from % 8 ≡ 0 → a ≡ j * bytes_of n + from / 8 → i < 8 * k → bit_at (part a k bits) i ≡ bit_at bits (8 * (j * bytes_of n) + (from + i))
  bit_part j a k i e f h =
      let q : (8 * (j * bytes_of n) + (from + i)) / 8 ≡ a + i / 8 = omega arith in
      let r : (8 * (j * bytes_of n) + (from + i)) % 8 ≡ i % 8 = omega arith in
      rw (q, r, get_d_part a k (i / 8) bits 0 (omega arith))

  -- and a row of a part of a column of bits
  vote_row : (j a k i : ℕ) (s : Float) → 0 < length bits → T (fits binary64 s) → from % 8 ≡ 0 → a ≡ j * bytes_of n + from / 8 → i < 8 * k
      → signed_by (bit_at (part a k bits) i) s ≡ mul binary64 (read_of matrix bits n j (from + i)) s
  vote_row j a k i s some good e f h =
      ap (λ b. signed_by b s) (bit_part j a k i e f h)
      ∙ sym (vote_times binary64 (bit_at bits (8 * (j * bytes_of n) + (from + i))) s good)
      ∙ ap (λ (x : Float). mul binary64 x s) (sym (reads_votes matrix bits n some j (from + i)))

  module _ (j : ℕ) (s : Float) (block : List Float) where
    -- the rows of a column of doubles, as a block of them adds up
    pub rows_of_doubles : length bits ≡ 0
        → tabulate (plus_at (part (j * n + from) (length block) matrix) s block) (length block)
        ≡ tabulate (plus_rows (read_of matrix bits n) j from s block) (length block)
    rows_of_doubles e =
        tab_cong _ _ (length block) (λ i h.
        ap (λ (x : Float). add binary64 (at block i) (mul binary64 x s)) (double_row j (length block) i e h))

    -- and of bits, where the block starts on a byte
    pub rows_of_votes : (a k : ℕ) → 0 < length bits → T (fits binary64 s) → from % 8 ≡ 0 → a ≡ j * bytes_of n + from / 8 → length block ≤ 8 * k
        → (block' : List Float) → block' ≡ tabulate (signed_at (part a k bits) s block) (length block) ++ drop (length block) block
        → block' ≡ tabulate (plus_rows (read_of matrix bits n) j from s block) (length block)
    rows_of_votes a k some good e f h block' w =
        whole (front_as (length block) (omega arith)
        (λ i l. ap (add binary64 (at block i)) (vote_row j a k i s some good e f (omega arith))) w) (omega arith)

    module _ (p : ℕ) (t : Float) where
      -- two columns of doubles
      pub two_of_doubles : length bits ≡ 0
          → tabulate (plus_two_at (part (j * n + from) (length block) matrix) s (part (p * n + from) (length block) matrix) t block) (length block)
          ≡ tabulate (plus_two_rows (read_of matrix bits n) j s p t from block) (length block)
      two_of_doubles e =
          tab_cong _ _ (length block) (λ i h.
          rw (double_row j (length block) i e h, double_row p (length block) i e h))

      -- and two of bits
      pub two_of_votes : (a c k : ℕ) → 0 < length bits → T (fits binary64 s) → T (fits binary64 t) → from % 8 ≡ 0
          → a ≡ j * bytes_of n + from / 8 → c ≡ p * bytes_of n + from / 8 → length block ≤ 8 * k
          → (block' : List Float) → block' ≡ tabulate (signed_two (part a k bits) s (part c k bits) t block) (length block) ++ drop (length block) block
          → block' ≡ tabulate (plus_two_rows (read_of matrix bits n) j s p t from block) (length block)
      two_of_votes a c k some good also e f g h block' w =
          whole (front_as (length block) (omega arith)
          (λ i l. rw (vote_row j a k i s some good e f (omega arith), vote_row p c k i t some also e g (omega arith))) w) (omega arith)
