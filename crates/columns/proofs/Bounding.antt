-- A bound on the largest magnitude of a vector: one entry at or above it settles the matter, and so does the bound where 0.0 is not below it.
use Prim.Native.Nat.{ℕ, zero, suc, ◌+◌, ◌<◌}
use mathlib.Core.Path.{◌≡◌, refl, sym, ap, ◌∙◌, subst}
use mathlib.Core.Logic.{◌⊎◌, inl, inr}
use mathlib.Core.Bool.{Bool, true, false, not, false≢true}
use native.Mathlib.Numerals.{add-one}
use native.Mathlib.Omega.{arith}
use lib.Dec.{T}
use lib.Ieee.Bits.{is_true}
use lib.Ieee.{Float, nan, binary64, of_bits, lt, le, fits}
use Rattle.ieee.specs.Magnitude.{abs_of, larger_of, largest_to, max_abs_to}
use Rattle.ieee.specs.Units.{is_num}
use Rattle.ieee.proofs.Ranks.{Number, lt_not_le, le_transitive, not_under, none_below, nan_or_number}
use Rattle.ieee.proofs.Maximum.{le_self, larger_nan, larger_is, largest_number, largest_ge}
use Rattle.ieee.proofs.Sums.{abs_fits}
use Rattle.seq.specs.Sums.{plus_zero}

yes : (t : Bool) → not t ≡ false → T t
yes true e = tt
yes false e = absurd (false≢true (sym e))

-- the largest magnitude is the largest of the magnitudes
as_largest : (v : ℕ → Float) (k : ℕ) → max_abs_to v k ≡ largest_to (λ (j : ℕ). abs_of (v j)) k
unfolding max_abs_to largest_to of_bits
as_largest v zero = refl
as_largest v (suc k) = ap (λ (x : Float). larger_of x (abs_of (v k))) (as_largest v k)

module _ (v : ℕ → Float) (held : (j : ℕ) → T (fits binary64 (v j))) (b : Float) (good : T (fits binary64 b)) where
  number : (k : ℕ) → Number binary64 (max_abs_to v k)
  number k = subst (Number binary64) (sym (as_largest v k)) (largest_number binary64 (λ (j : ℕ). abs_of (v j)) k (λ j l. abs_fits binary64 (v j) (held j)))

  big : (j : ℕ) → T (is_num (abs_of (v j))) → Number binary64 (abs_of (v j))
  big j h = record { held = abs_fits binary64 (v j) (held j); num = h }

  reaches : (k n : ℕ) → k < n → T (is_num (abs_of (v k))) → T (le (abs_of (v k)) (max_abs_to v n))
  reaches k n l h = subst (λ (x : Float). T (le (abs_of (v k)) x)) (sym (as_largest v n))
      (largest_ge binary64 (λ (j : ℕ). abs_of (v j)) n (λ j g. abs_fits binary64 (v j) (held j)) k l h)

  starts : (n : ℕ) → T (le (max_abs_to v 0) (max_abs_to v n))
  starts zero = le_self (number 0)
  starts (suc n) = le_transitive (number 0) (number n) (number (suc n)) (starts n) (grows (nan_or_number (abs_of (v n))))
    where
      grows : (abs_of (v n) ≡ nan) ⊎ T (is_num (abs_of (v n))) → T (le (max_abs_to v n) (max_abs_to v (suc n)))
      grows (inl e) = unfold max_abs_to in subst (λ (y : Float). T (le (max_abs_to v n) (larger_of (max_abs_to v n) y))) (sym e)
          (subst (λ (y : Float). T (le (max_abs_to v n) y)) (sym (larger_nan (max_abs_to v n))) (le_self (number n)))
      grows (inr h) = unfold max_abs_to in (larger_is (number n) (big n h)).first

  -- what lies at or above the bound and at or below the largest magnitude
  between : (x : Float) (n : ℕ) → Number binary64 x → T (is_num b) → T (le b x) → T (le x (max_abs_to v n)) → lt (max_abs_to v n) b ≡ false
  between x n p h l k =
      let q : Number binary64 b = record { held = good; num = h } in
      lt_not_le (number n) q ∙ ap not (is_true (le b (max_abs_to v n)) (le_transitive q p (number n) l k))

  -- an entry at or above the bound settles it
  pub not_below : (k n : ℕ) → k < n → le b (abs_of (v k)) ≡ true → lt (max_abs_to v n) b ≡ false
  not_below k n l e = go (nan_or_number b) (nan_or_number (abs_of (v k)))
    where
      go : (b ≡ nan) ⊎ T (is_num b) → (abs_of (v k) ≡ nan) ⊎ T (is_num (abs_of (v k))) → lt (max_abs_to v n) b ≡ false
      go (inl h) w = ap (λ (y : Float). lt (max_abs_to v n) y) h ∙ none_below (max_abs_to v n)
      go (inr h) (inl w) = absurd (false≢true (sym (not_under b) ∙ ap (λ (y : Float). le b y) (sym w) ∙ e))
      go (inr h) (inr w) = between (abs_of (v k)) n (big k w) h (subst T (sym e) tt) (reaches k n l w)

  -- and so does 0.0
  pub never_below : (n : ℕ) → lt plus_zero b ≡ false → lt (max_abs_to v n) b ≡ false
  never_below n e = go (nan_or_number b)
    where
      go : (b ≡ nan) ⊎ T (is_num b) → lt (max_abs_to v n) b ≡ false
      go (inl h) = ap (λ (y : Float). lt (max_abs_to v n) y) h ∙ none_below (max_abs_to v n)
      go (inr h) =
          let q : Number binary64 b = record { held = good; num = h } in
          unfold max_abs_to in between (max_abs_to v 0) n (number 0) h (yes (le b (max_abs_to v 0)) (sym (lt_not_le (number 0) q) ∙ e)) (starts n)

  -- one entry more
  pub still_below : (k : ℕ) → lt (max_abs_to v k) b ≡ true → le b (abs_of (v k)) ≡ false → lt (max_abs_to v (k + 1)) b ≡ true
  still_below k e f = subst (λ (j : ℕ). lt (max_abs_to v j) b ≡ true) (sym (add-one k)) (go (nan_or_number b) (nan_or_number (abs_of (v k))))
    where
      go : (b ≡ nan) ⊎ T (is_num b) → (abs_of (v k) ≡ nan) ⊎ T (is_num (abs_of (v k))) → lt (max_abs_to v (suc k)) b ≡ true
      go (inl h) w = absurd (false≢true (sym (none_below (max_abs_to v k)) ∙ ap (λ (y : Float). lt (max_abs_to v k) y) (sym h) ∙ e))
      go (inr h) (inl w) = unfold max_abs_to in ap (λ (y : Float). lt (larger_of (max_abs_to v k) y) b) w ∙ ap (λ (y : Float). lt y b)
          (larger_nan (max_abs_to v k)) ∙ e
      go (inr h) (inr w) =
          let q : Number binary64 b = record { held = good; num = h } in
          unfold max_abs_to in which q (larger_is (number k) (big k w)).either
        where
          which : Number binary64 b → (larger_of (max_abs_to v k) (abs_of (v k)) ≡ max_abs_to v k) ⊎ (larger_of (max_abs_to v k) (abs_of (v k)) ≡ abs_of (v k))
              → lt (larger_of (max_abs_to v k) (abs_of (v k))) b ≡ true
          which q (inl g) = ap (λ (y : Float). lt y b) g ∙ e
          which q (inr g) = ap (λ (y : Float). lt y b) g ∙ lt_not_le (big k w) q ∙ ap not f

  -- the last entry decides
  pub last-below : (k : ℕ) → lt (max_abs_to v k) b ≡ true → not (le b (abs_of (v k))) ≡ lt (max_abs_to v (k + 1)) b
  last-below k e = go (le b (abs_of (v k))) (not_below k (k + 1) (omega arith)) (still_below k e)
    where
      go : (t : Bool) → (t ≡ true → lt (max_abs_to v (k + 1)) b ≡ false) → (t ≡ false → lt (max_abs_to v (k + 1)) b ≡ true) → not t ≡ lt (max_abs_to v (k + 1)) b
      go true f g = sym (f refl)
      go false f g = sym (g refl)
