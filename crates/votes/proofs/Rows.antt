-- The bits of a byte's two nibbles are those of its eight rows.
use Prim.Native.Nat.{ℕ, zero, suc, ◌+◌, ◌*◌, ◌/◌, ◌%◌, ◌^◌, ◌<◌}
use mathlib.Core.Path.{◌≡◌, refl, sym, ap, ◌∙◌}
use mathlib.Core.Bool.{Bool}
use mathlib.Core.List.{List, [], ◌∷◌}
use native.Mathlib.Omega.{arith}
use lib.Dec.{eqb}
use lib.ListN.{get_or}
use lib.Ieee.{Float, nan, neg}
use Rattle.seq.specs.Lists.{tabulate}
use Rattle.seq.specs.Sums.{at}
use Rattle.seq.proofs.Filling.{get_or-tab}
use Rattle.limits.specs.Votes.{bit_of, bit_at}
use Rattle.votes.specs.Signing.{signed_by, pair_at, quad_at}

-- row j of byte k
row_bit : (column : List ℕ) (k j p : ℕ) → j < 8 → p ≡ 8 * k + j → bit_at column p ≡ bit_of (get_or column k 0) j
row_bit column k j p h e =
    let a : p / 8 ≡ k = omega arith in
    let b : p % 8 ≡ j = omega arith in
    rw (a, b)

pub pairs_are : (t : Float) → (t ∷ t ∷ neg t ∷ t ∷ t ∷ neg t ∷ neg t ∷ neg t ∷ []) ≡ tabulate (pair_at t) 8
unfolding tabulate
pairs_are t = refl

-- of t and -t the one at a bit
pub either_is : (t : Float) (u : ℕ) → u < 2 → at (t ∷ neg t ∷ []) u ≡ signed_by (eqb u 1) t
either_is t zero h = refl
either_is t (suc zero) h = refl
either_is t (suc (suc u)) h = absurd (omega arith)

-- entry j of pair v
pair_is : (t : Float) (v j k : ℕ) → j < 2 → k ≡ 2 * v + j → pair_at t k ≡ signed_by (bit_of v j) t
pair_is t v j k h e =
    let a : k / 2 ≡ v = omega arith in
    let b : k % 2 ≡ j = omega arith in
    rw (a, b)

-- two pairs of a table, at p and at q, have the signs of the four rows from r on
pub record Signs (column : List ℕ) (t : Float) (r : ℕ) (table : List Float) (p q : ℕ) : Type 0 where
  pub first : at table p ≡ signed_by (bit_at column r) t
  pub second : at table (p + 1) ≡ signed_by (bit_at column (r + 1)) t
  pub third : at table q ≡ signed_by (bit_at column (r + 2)) t
  pub fourth : at table (q + 1) ≡ signed_by (bit_at column (r + 3)) t

module _ (t : Float) (column : List ℕ) (k b : ℕ) (e : b ≡ get_or column k 0) (l : b < 256) (pairs : List Float) (made : pairs ≡ tabulate (pair_at t) 8) where
  -- entry j of pair u, where u has the bits of the rows p and p + 1
  one : (u j p h : ℕ) → u < 4 → j < 2 → p ≡ 8 * k + h → h < 8 → u / 2 ^ j % 2 ≡ b / 2 ^ h % 2 → (q : ℕ) → q ≡ 2 * u + j → at pairs q
      ≡ signed_by (bit_at column p) t
  one u j p h w d g f s q m =
      ap (λ (z : List Float). at z q) made ∙ get_or-tab (pair_at t) 8 q nan (omega arith) ∙ pair_is t u j q d m
      ∙ ap (λ (z : ℕ). signed_by (eqb z 1) t) s
      ∙ ap (λ (z : ℕ). signed_by (bit_of z h) t) e
      ∙ ap (λ (z : Bool). signed_by z t) (sym (row_bit column k h p f g))

  pub low_signs : Signs column t (8 * k) pairs (2 * (b % 16 % 4)) (2 * (b % 16 / 4))
  low_signs =
      record {
        first = one (b % 16 % 4) 0 (8 * k) 0 (omega arith) (omega arith) (omega arith) (omega arith) (omega arith) _ (omega arith);
        second = one (b % 16 % 4) 1 (8 * k + 1) 1 (omega arith) (omega arith) (omega arith) (omega arith) (omega arith) _ (omega arith);
        third = one (b % 16 / 4) 0 (8 * k + 2) 2 (omega arith) (omega arith) (omega arith) (omega arith) (omega arith) _ (omega arith);
        fourth = one (b % 16 / 4) 1 (8 * k + 3) 3 (omega arith) (omega arith) (omega arith) (omega arith) (omega arith) _ (omega arith);
      }

  pub high_signs : Signs column t (8 * k + 4) pairs (2 * (b / 16 % 4)) (2 * (b / 16 / 4))
  high_signs =
      record {
        first = one (b / 16 % 4) 0 (8 * k + 4) 4 (omega arith) (omega arith) (omega arith) (omega arith) (omega arith) _ (omega arith);
        second = one (b / 16 % 4) 1 (8 * k + 4 + 1) 5 (omega arith) (omega arith) (omega arith) (omega arith) (omega arith) _ (omega arith);
        third = one (b / 16 / 4) 0 (8 * k + 4 + 2) 6 (omega arith) (omega arith) (omega arith) (omega arith) (omega arith) _ (omega arith);
        fourth = one (b / 16 / 4) 1 (8 * k + 4 + 3) 7 (omega arith) (omega arith) (omega arith) (omega arith) (omega arith) _ (omega arith);
      }

-- ---- the same by quadruples
pub quads_are : (t : Float)
    → (t ∷ t ∷ t ∷ t ∷ neg t ∷ t ∷ t ∷ t ∷ t ∷ neg t ∷ t ∷ t ∷ neg t ∷ neg t ∷ t ∷ t ∷ t ∷ t ∷ neg t ∷ t ∷ neg t ∷ t ∷ neg t ∷ t ∷ t ∷ neg t ∷
    neg t ∷ t ∷ neg t ∷ neg t ∷ neg t ∷ t ∷ t ∷ t ∷ t ∷ neg t ∷ neg t ∷ t ∷ t ∷ neg t ∷ t ∷ neg t ∷ t ∷ neg t ∷ neg t ∷ neg t ∷ t ∷ neg t ∷ t ∷ t ∷
    neg t ∷ neg t ∷ neg t ∷ t ∷ neg t ∷ neg t ∷ t ∷ neg t ∷ neg t ∷ neg t ∷ neg t ∷ neg t ∷ neg t ∷ neg t ∷ []) ≡ tabulate (quad_at t) 64
unfolding tabulate
quads_are t = refl

quad_is : (t : Float) (v j k : ℕ) → j < 4 → k ≡ 4 * v + j → quad_at t k ≡ signed_by (bit_of v j) t
quad_is t v j k h e =
    let a : k / 4 ≡ v = omega arith in
    let b : k % 4 ≡ j = omega arith in
    rw (a, b)

module _ (t : Float) (column : List ℕ) (k b : ℕ) (e : b ≡ get_or column k 0) (l : b < 256) (quads : List Float) (made : quads ≡ tabulate (quad_at t) 64) where
  -- entry j of quadruple u, where u has the bit of the row p
  another : (u j p h : ℕ) → u < 16 → j < 4 → p ≡ 8 * k + h → h < 8 → u / 2 ^ j % 2 ≡ b / 2 ^ h % 2 → (q : ℕ) → q ≡ 4 * u + j → at quads q
      ≡ signed_by (bit_at column p) t
  another u j p h w d g f s q m =
      ap (λ (z : List Float). at z q) made ∙ get_or-tab (quad_at t) 64 q nan (omega arith) ∙ quad_is t u j q d m
      ∙ ap (λ (z : ℕ). signed_by (eqb z 1) t) s
      ∙ ap (λ (z : ℕ). signed_by (bit_of z h) t) e
      ∙ ap (λ (z : Bool). signed_by z t) (sym (row_bit column k h p f g))

  pub low_quad : Signs column t (8 * k) quads (4 * (b % 16)) (4 * (b % 16) + 2)
  low_quad =
      record {
        first = another (b % 16) 0 (8 * k) 0 (omega arith) (omega arith) (omega arith) (omega arith) (omega arith) _ (omega arith);
        second = another (b % 16) 1 (8 * k + 1) 1 (omega arith) (omega arith) (omega arith) (omega arith) (omega arith) _ (omega arith);
        third = another (b % 16) 2 (8 * k + 2) 2 (omega arith) (omega arith) (omega arith) (omega arith) (omega arith) _ (omega arith);
        fourth = another (b % 16) 3 (8 * k + 3) 3 (omega arith) (omega arith) (omega arith) (omega arith) (omega arith) _ (omega arith);
      }

  pub high_quad : Signs column t (8 * k + 4) quads (4 * (b / 16)) (4 * (b / 16) + 2)
  high_quad =
      record {
        first = another (b / 16) 0 (8 * k + 4) 4 (omega arith) (omega arith) (omega arith) (omega arith) (omega arith) _ (omega arith);
        second = another (b / 16) 1 (8 * k + 4 + 1) 5 (omega arith) (omega arith) (omega arith) (omega arith) (omega arith) _ (omega arith);
        third = another (b / 16) 2 (8 * k + 4 + 2) 6 (omega arith) (omega arith) (omega arith) (omega arith) (omega arith) _ (omega arith);
        fourth = another (b / 16) 3 (8 * k + 4 + 3) 7 (omega arith) (omega arith) (omega arith) (omega arith) (omega arith) _ (omega arith);
      }
