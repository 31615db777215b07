-- Request R-9: every step gets somewhere, in a colouring, in both colourings of a pass, and in a direct call, where each phase is clear.
use mathlib.Core.Path.{◌≡◌, refl, sym, subst}
use Prim.Native.Nat.{ℕ, suc, ◌+◌, ◌-◌, ◌*◌, ◌/◌, ◌^◌, ◌≤◌, ◌<◌, max}
use native.Mathlib.Nat.{le_trans, le_of_eq, mul-le-mul_right}
use native.Mathlib.Decide.{dec_lt}
use native.Mathlib.Omega.{arith}
use borrow.Author.Tests.{ltb-false, eqb-true}
use mathlib.Core.Bool.{Bool, true, false, not, ◌||◌}
use mathlib.Core.List.{List}
use lib.IntN.{pos}
use lib.Dec.{T, ltb, eqb, lit≤}
use lib.ListN.{length, get_or}
use lib.Ieee.{Float, nan, fin, binary64, of_bits, le, fits}
use Rattle.seq.specs.Choice.{pick}
use Rattle.seq.specs.Sums.{plus_zero, at}
use Rattle.seq.proofs.Keeping.{keep_short, keep-good, count_short}
use Rattle.seq.specs.Marks.{is_set}
use Rattle.ieee.specs.Units.{mag}
use Rattle.ieee.specs.Magnitude.{abs_of}
use Rattle.ieee.proofs.Ranks.{le→mag}
use Rattle.ieee.proofs.Ops.{Finite, finite_number}
use Rattle.ieee.proofs.Sums.{abs_size, abs_mag}
use Rattle.ieee.proofs.Normalised.{Normal}
use Rattle.limits.specs.Limits.{bounded, scratch_short}
use Rattle.places.proofs.Places.{get_or_out}
use Rattle.limits.specs.Matrix.{columns_of}
use Rattle.limits.proofs.Bounded.{bounded_at, finite_within}
use Rattle.ieee.specs.Constants.{one}
use Rattle.weights.specs.Weights.{is_on, nonzeros}
use Rattle.ranking.specs.Ranking.{rest_of, omega_of}
use Rattle.doubling.specs.Doubling.{remaining}
use Rattle.doubling.proofs.Turns.{those_short}
use Rattle.halved.specs.Halve.{Halved}
use Rattle.passed.proofs.Rest.{length_rest, rest_on}
use Rattle.passed.proofs.Fates.{length-once}
use Rattle.colorfaults.specs.Discrepancy.{most_entry, coloring_fault}
use Rattle.bounded.proofs.Within.{Within}
use Rattle.draw.specs.SplitMix.{seeded}
use Rattle.progress.specs.Original.{Generator, before, columns_at, entries_at, GetsSomewhere}
use Rattle.progress.specs.Clear.{Clear, Sizable}
use Rattle.progress.specs.Pass.{halved_first, scaled_in, left_in, PassClear, PassGetsSomewhere}
use Rattle.progress.proofs.Standing.{Fair}
use Rattle.progress.proofs.Colourings.{every_step, every_phase}
use Rattle.progress.proofs.Fairness.{Bounded, bounded-chosen, fair_clear, clear_few, clear-sizable}
use Rattle.progress.proofs.Passes.{Columns, heaviest-positive, weighed_first, weighed_second, scaled-bounded}

-- ---- a colouring

pub colouring_gets_somewhere : (a : ℕ → ℕ → Float) (k n : ℕ) (rng : Generator) → k ≤ 256 → Bounded k n a → Clear a k n rng → GetsSomewhere a k n rng
colouring_gets_somewhere a k n rng h b c = record { steps = every_step a k n rng fair; phases = every_phase a k n rng fair }
  where
    fair : (i : ℕ) → let d = before plus_zero a k n rng i in Fair (entries_at a k d) (length (columns_at k d)) n
    fair i =
        let d = before plus_zero a k n rng i in
        fair_clear (entries_at a k d) (length (columns_at k d)) n (bounded-chosen (λ p. get_or (columns_at k d) p 0) (λ p g. (keep-good (is_set d.free) k p g).1) b)
        (le_trans (keep_short (is_set d.free) k) h) (c.phases i)

-- of at most 60 columns, whatever their entries are
pub few_columns : (a : ℕ → ℕ → Float) (k n : ℕ) (rng : Generator) → k ≤ 60 → Bounded k n a → GetsSomewhere a k n rng
few_columns a k n rng h b = colouring_gets_somewhere a k n rng (le_trans h (lit≤ tt)) b (clear_few a k n rng h)

-- of entries that are 0, or at least 2 ^ -480
pub sizable_entries : (a : ℕ → ℕ → Float) (k n : ℕ) (rng : Generator) → k ≤ 256 → Bounded k n a → Sizable k n a → GetsSomewhere a k n rng
sizable_entries a k n rng h b s = colouring_gets_somewhere a k n rng h b (clear-sizable a k n rng b s)

-- ---- lent entries within a bound

-- doubles of at most 2 ^ e, by the test
within_of : (matrix : List Float) (e : ℕ) (most : Float) → most ≡ fin false 1 (pos e) → T (fits binary64 (fin false 1 (pos e)))
    → mag binary64 (fin false 1 (pos e)) ≤ 2 ^ (1074 + e)
    → ((i : ℕ) → T (fits binary64 (at matrix i))) → bounded most matrix ≡ true → (i : ℕ) → i < length matrix → Within binary64 (2 ^ (1074 + e)) (at matrix i)
within_of matrix e most is held units doubles b i h =
    let t : T (le (abs_of (at matrix i)) (fin false 1 (pos e))) = subst (λ (m : Float). T (le (abs_of (at matrix i)) m)) is (bounded_at most matrix b i h) in
    let f : Finite binary64 (at matrix i) = record { held = doubles i; ends = finite_within (at matrix i) false 1 (pos e) t } in
    let a = abs_size (finite_number f) in
    record {
      ends = f;
      most = le_trans (le_of_eq (sym (abs_mag binary64 (at matrix i))))
          (le_trans (le→mag a.number (record { held = held; num = tt }) a.plus refl t) units);
    }

one_is : one ≡ fin false 1 (pos 0)
unfolding of_bits
one_is = refl

most_is : most_entry ≡ fin false 1 (pos 32)
unfolding of_bits
most_is = refl

place_inside : (j i m n : ℕ) → j < m → i < n → j * n + i < m * n
place_inside j i m n h g = let a = mul-le-mul_right n h in omega arith

-- ---- a pass

-- a lent matrix of m columns of n rows, with no entry above 1
pub lent-columns : (matrix : List Float) (m n : ℕ) → ((i : ℕ) → T (fits binary64 (at matrix i))) → length matrix ≡ m * n → bounded one matrix ≡ true
    → Columns m n (columns_of matrix n)
unfolding fits
lent-columns matrix m n doubles long small = record {
  each = λ j i h g.
      within_of matrix 0 one one_is tt (lit≤ tt) doubles small (j * n + i) (subst (λ (k : ℕ). j * n + i < k) (sym long) (place_inside j i m n h g));
}

few_left : (a b c m : ℕ) → a ≤ b → b ≤ c → c ≤ m → a ≤ m
few_left a b c m h g k = omega arith

sixty : (s r : ℕ) → s ≤ 90 → r ≡ s - max 1 (s / 3) → r ≤ 60
sixty s r h e = omega arith

module _ (matrix : ℕ → ℕ → Float) (n : ℕ) (h : Halved) (normal : Normal binary64 (length h.w) (at h.w)) (columns : Columns (length h.w) n matrix) where
  abbrev w : List Float
  w = h.w

  abbrev rest : List ℕ
  rest = rest_of w

  abbrev ω : Float
  ω = omega_of w

  -- weights are doubles, and what is read past them is a NaN
  doubles : (j : ℕ) → T (fits binary64 (at w j))
  unfolding fits
  doubles j = go (dec_lt j (length w))
    where
      go : Dec (j < length w) → T (fits binary64 (at w j))
      go (yes g) = (normal.ends j g).held
      go (no g) = subst (λ (x : Float). T (fits binary64 x)) (sym (get_or_out w j nan (let k : length w ≤ j = omega arith in k))) tt

  -- what remains is no longer than the rest
  short : (v : List Float) → length (remaining v rest) ≤ length rest
  short v = those_short _ rest (length rest)

  rest_few : length rest ≤ length w
  rest_few = let e = length_rest w in let o = count_short (is_on w) (length w) in omega arith

  first-bounded : Bounded (left_in h h) (suc n) (scaled_in matrix n h h)
  first-bounded = scaled-bounded matrix n w ω rest columns (λ p g. (rest_on w p g).below) (heaviest-positive w doubles normal) (weighed_first w doubles normal)

  second-bounded : let t = halved_first matrix n h in Bounded (left_in h t) (suc n) (scaled_in matrix n h t)
  second-bounded =
      let once = (halved_first matrix n h).w in
      let e : length once ≡ length w = length-once plus_zero matrix n ω rest h in
      scaled-bounded matrix n once ω rest (subst (λ (m : ℕ). Columns m n matrix) (sym e) columns)
      (λ p g. subst (λ (m : ℕ). get_or rest p 0 < m) (sym e) (rest_on w p g).below)
      (heaviest-positive w doubles normal) (weighed_second w doubles normal matrix n h.rng h.directions h.sweeps)

  -- both colourings, where they are clear
  pub pass_gets_somewhere : length w ≤ 256 → PassClear matrix n h → PassGetsSomewhere matrix n h
  pass_gets_somewhere few c =
      let t = halved_first matrix n h in
      record {
        first =
            colouring_gets_somewhere _ (left_in h h) (suc n) h.rng
            (few_left (left_in h h) (length rest) (length w) 256 (short w) rest_few few) first-bounded c.first;
        second =
            colouring_gets_somewhere _ (left_in h t) (suc n) t.rng
            (few_left (left_in h t) (length rest) (length w) 256 (short t.w) rest_few few) second-bounded c.second;
      }

  -- of at most 90 weights that are not 0, whatever they and the matrix are: at most 60 are of the rest
  pub few_weights : nonzeros w ≤ 90 → PassGetsSomewhere matrix n h
  few_weights few =
      let t = halved_first matrix n h in
      let r : length rest ≤ 60 = sixty (nonzeros w) (length rest) few (length_rest w) in
      record {
        first = few_columns _ (left_in h h) (suc n) h.rng (le_trans (short w) r) first-bounded;
        second = few_columns _ (left_in h t) (suc n) t.rng (le_trans (short t.w) r) second-bounded;
      }

-- ---- a direct call

-- what an accepted call has
record Accepted (matrix : List Float) (m n : ℕ) : Type 0 where
  small : m ≤ 256
  long : length matrix ≡ m * n
  most : bounded most_entry matrix ≡ true

accepted : (matrix : List Float) (m n output numbers indices : ℕ) → coloring_fault matrix m n output numbers indices ≡ 0 → Accepted matrix m n
unfolding coloring_fault
accepted matrix m n output numbers indices e =
    go (ltb 256 m) refl (ltb 4096 n) (eqb (length matrix) (m * n)) refl (not (eqb output m)) (scratch_short m n numbers indices)
    (bounded most_entry matrix) refl e
  where
    go : (a : Bool) → ltb 256 m ≡ a → (b c : Bool) → eqb (length matrix) (m * n) ≡ c → (d f g : Bool) → bounded most_entry matrix ≡ g
        → ◌≡◌ {A = ℕ} (pick (a || b) 3 (pick (not c || d) 4 (pick f 6 (pick g 0 11)))) 0 → Accepted matrix m n
    go true x b c y d f g z e = absurd (let q : ⊥ = omega arith in q)
    go false x true c y d f g z e = absurd (let q : ⊥ = omega arith in q)
    go false x false false y d f g z e = absurd (let q : ⊥ = omega arith in q)
    go false x false true y true f g z e = absurd (let q : ⊥ = omega arith in q)
    go false x false true y false true g z e = absurd (let q : ⊥ = omega arith in q)
    go false x false true y false false false z e = absurd (let q : ⊥ = omega arith in q)
    go false x false true y false false true z e = record { small = ltb-false 256 m x; long = eqb-true (length matrix) (m * n) y; most = z }

-- the entries of an accepted call
call-bounded : (matrix : List Float) (m n : ℕ) → ((i : ℕ) → T (fits binary64 (at matrix i))) → Accepted matrix m n → Bounded m n (columns_of matrix n)
unfolding fits
call-bounded matrix m n doubles a = record {
  each = λ p i h g.
      within_of matrix 32 most_entry most_is tt (lit≤ tt) doubles a.most (p * n + i)
      (subst (λ (k : ℕ). p * n + i < k) (sym a.long) (place_inside p i m n h g));
}

-- by the generator of edition 1, with which a direct call starts
pub call_gets_somewhere : (matrix : List Float) (m n output numbers indices seed : ℕ) → ((i : ℕ) → T (fits binary64 (at matrix i)))
    → coloring_fault matrix m n output numbers indices ≡ 0
    → Clear (columns_of matrix n) m n (seeded seed 1) → GetsSomewhere (columns_of matrix n) m n (seeded seed 1)
call_gets_somewhere matrix m n output numbers indices seed doubles e c =
    let a = accepted matrix m n output numbers indices e in
    colouring_gets_somewhere (columns_of matrix n) m n (seeded seed 1) a.small (call-bounded matrix m n doubles a) c
