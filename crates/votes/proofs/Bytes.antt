-- A nibble fills four rows on, a byte eight, and a bit one.
use Prim.Native.Nat.{ℕ, ◌+◌, ◌*◌, ◌/◌, ◌%◌, ◌^◌, ◌≤◌, ◌<◌}
use mathlib.Core.Path.{◌≡◌, sym, ap, ◌∙◌, subst}
use mathlib.Core.List.{List, [], ◌∷◌}
use native.Mathlib.Omega.{arith}
use lib.Dec.{eqb}
use lib.ListN.{length, get_or, set}
use lib.Ieee.{Float, nan, binary64, add, neg}
use Rattle.seq.specs.Lists.{tabulate}
use Rattle.seq.specs.Sums.{at}
use Rattle.seq.proofs.Filling.{Filled, turn, still, still_after}
use Rattle.limits.specs.Votes.{bit_at}
use Rattle.votes.specs.Signing.{signed_by, pair_at, signed_at, signed_two, added_four, added_twos}
use Rattle.votes.proofs.Fronts.{turn-four}
use Rattle.votes.proofs.Rows.{either_is, Signs, low_signs, high_signs}

pub either_row : (t : Float) (column : List ℕ) (i b u : ℕ) → b ≡ get_or column (i / 8) 0 → u ≡ b / 2 ^ (i % 8) % 2 → at (t ∷ neg t ∷ []) u
    ≡ signed_by (bit_at column i) t
either_row t column i b u e d = either_is t u (omega arith) ∙ ap (λ (z : ℕ). signed_by (eqb z 1) t) (d ∙ ap (λ (z : ℕ). z / 2 ^ (i % 8) % 2) e)

module _ (column : List ℕ) (t : Float) (w : List Float) where
  four-turn : (pairs v v' : List Float) (r q : ℕ) → Filled (signed_at column t w) w r v → r + 4 ≤ length w
      → Signs column t r pairs (2 * (q % 4)) (2 * (q / 4)) → v' ≡ added_four v r pairs q → Filled (signed_at column t w) w (r + 4) v'
  unfolding added_four
  four-turn pairs v v' r q p h k e =
      let row : (i : ℕ) → r ≤ i → (x : Float) → x ≡ signed_by (bit_at column i) t → add binary64 (at v i) x ≡ signed_at column t w i =
      λ i l x g. ap (λ (z : Float). add binary64 z x) (still_after p i l nan) ∙ ap (add binary64 (at w i)) g in
      subst (Filled (signed_at column t w) w (r + 4)) (sym e)
      (turn-four p h (row r (omega arith) _ k.first) (row (r + 1) (omega arith) _ k.second) (row (r + 2) (omega arith) _ k.third)
      (row (r + 3) (omega arith) _ k.fourth))

  pub byte_turn : (pairs v v' v'' : List Float) (k b : ℕ) → pairs ≡ tabulate (pair_at t) 8 → b ≡ get_or column k 0 → b < 256
      → Filled (signed_at column t w) w (8 * k) v → 8 * k + 8 ≤ length w
      → v' ≡ added_four v (8 * k) pairs (b % 16) → v'' ≡ added_four v' (8 * k + 4) pairs (b / 16)
      → Filled (signed_at column t w) w (8 * (k + 1)) v''
  byte_turn pairs v v' v'' k b m g l p h e d =
      let half : Filled (signed_at column t w) w (8 * k + 4) v' = four-turn pairs v v' (8 * k) (b % 16) p (omega arith) (low_signs t column k b g l pairs m) e in
      subst (λ (i : ℕ). Filled (signed_at column t w) w i v'') (let q : 8 * k + 4 + 4 ≡ 8 * (k + 1) = omega arith in q)
      (four-turn pairs v' v'' (8 * k + 4) (b / 16) half (omega arith) (high_signs t column k b g l pairs m) d)

  -- one row by itself
  pub row_turn : {v : List Float} {i : ℕ} (b u : ℕ) → Filled (signed_at column t w) w i v → i < length w
      → b ≡ get_or column (i / 8) 0 → u ≡ b / 2 ^ (i % 8) % 2 → Filled (signed_at column t w) w (i + 1) (set v i (add binary64 (at v i) (at (t ∷ neg t ∷ []) u)))
  row_turn {v} {i} b u p h e d =
      turn p h
      (ap (λ (z : Float). add binary64 z (at (t ∷ neg t ∷ []) u)) (still p h nan)
      ∙ ap (add binary64 (at w i)) (either_row t column i b u e d))

-- the same of two columns
module _ (first : List ℕ) (t : Float) (second : List ℕ) (u : Float) (w : List Float) where
  two_row : {v : List Float} {r : ℕ} → Filled (signed_two first t second u w) w r v → (i : ℕ) → r ≤ i → (x y : Float)
      → x ≡ signed_by (bit_at first i) t → y ≡ signed_by (bit_at second i) u → add binary64 (add binary64 (at v i) x) y ≡ signed_two first t second u w i
  two_row p i l x y g h =
      ap (λ (z : Float). add binary64 (add binary64 z x) y) (still_after p i l nan)
      ∙ ap (λ (z : Float). add binary64 (add binary64 (at w i) z) y) g
      ∙ ap (add binary64 (add binary64 (at w i) (signed_by (bit_at first i) t))) h

  fours_turn : (table others v v' : List Float) (r p q x y : ℕ) → Filled (signed_two first t second u w) w r v → r + 4 ≤ length w
      → Signs first t r table p q → Signs second u r others x y → v' ≡ added_twos v r table p q others x y → Filled (signed_two first t second u w) w (r + 4) v'
  unfolding added_twos
  fours_turn table others v v' r p q x y f h a b e =
      subst (Filled (signed_two first t second u w) w (r + 4)) (sym e)
      (turn-four f h (two_row f r (omega arith) _ _ a.first b.first) (two_row f (r + 1) (omega arith) _ _ a.second b.second)
      (two_row f (r + 2) (omega arith) _ _ a.third b.third) (two_row f (r + 3) (omega arith) _ _ a.fourth b.fourth))

  pub bytes_turn : (table others v v' v'' : List Float) (k p q x y p' q' x' y' : ℕ)
      → Signs first t (8 * k) table p q → Signs second u (8 * k) others x y → Signs first t (8 * k + 4) table p' q' → Signs second u (8 * k + 4) others x' y'
      → Filled (signed_two first t second u w) w (8 * k) v → 8 * k + 8 ≤ length w
      → v' ≡ added_twos v (8 * k) table p q others x y → v'' ≡ added_twos v' (8 * k + 4) table p' q' others x' y'
      → Filled (signed_two first t second u w) w (8 * (k + 1)) v''
  bytes_turn table others v v' v'' k p q x y p' q' x' y' a b c d f h e g =
      let half : Filled (signed_two first t second u w) w (8 * k + 4) v' = fours_turn table others v v' (8 * k) p q x y f (omega arith) a b e in
      subst (λ (i : ℕ). Filled (signed_two first t second u w) w i v'') (let z : 8 * k + 4 + 4 ≡ 8 * (k + 1) = omega arith in z)
      (fours_turn table others v' v'' (8 * k + 4) p' q' x' y' half (omega arith) c d g)

  pub rows-turn : {v : List Float} {i : ℕ} (b p c q : ℕ) → Filled (signed_two first t second u w) w i v → i < length w
      → b ≡ get_or first (i / 8) 0 → p ≡ b / 2 ^ (i % 8) % 2 → c ≡ get_or second (i / 8) 0 → q ≡ c / 2 ^ (i % 8) % 2
      → Filled (signed_two first t second u w) w (i + 1) (set v i (add binary64 (add binary64 (at v i) (at (t ∷ neg t ∷ []) p)) (at (u ∷ neg u ∷ []) q)))
  rows-turn {v} {i} b p c q f h e d e' d' = turn f h (two_row f i (omega arith) _ _ (either_row t first i b p e d) (either_row u second i c q e' d'))
