-- The norm that a basis divides a vector by is never zero: were it zero, it would be no more than 1e-10 of the offered vector's norm,
-- or that norm would be a NaN; but a NaN in a vector stays in all that projection leaves of it, and in its norm.
use Prim.Native.Nat.{ℕ, zero, suc, ◌*◌, ◌<◌}
use mathlib.Core.Path.{◌≡◌, refl, sym, ap, ◌∙◌, subst}
use mathlib.Core.Bool.{Bool, true, false, not, ◌&&◌, true≢false}
use mathlib.Core.List.{List, []}
use native.Mathlib.Decide.{dec_lt}
use native.Mathlib.Omega.{arith}
use lib.IntN.{ℤ, negsuc}
use lib.Dec.{T, eqb}
use lib.ListN.{length, get_or}
use lib.Ieee.{Float, nan, inf, fin, Format, binary64, add, sub, mul, le, eq, of_bits, fits, up, down, unlike, round}
use lib.Ieee.Fits.{round-fits}
use Rattle.seq.proofs.Choosing.{holds}
use Rattle.seq.specs.Sums.{plus_zero, sum_from, sum_to, at, product}
use Rattle.seq.proofs.Filling.{length-tab, get_or-tab}
use Rattle.ieee.specs.Flat.{is_zero}
use Rattle.ieee.specs.Units.{is_num}
use Rattle.root.specs.Root.{sqrt_of}
use Rattle.ieee.proofs.Grid.{rounded}
use Rattle.ieee.proofs.Ranks.{mag→le}
use Rattle.ieee.proofs.Ops.{finite_number}
use Rattle.ieee.proofs.Signs.{nought, nought-finite, mag-nought}
use Rattle.ieee.proofs.Sums.{Size, sum-size}
use Rattle.root.proofs.RootResults.{sqrt_size}
use Rattle.ieee.proofs.Alikes.{alike_refl, le_alike, sum-up_is}
use Rattle.linear.specs.Vectors.{dot_of, norm_of}
use Rattle.basis.specs.Basis.{less_at, stripped, pass_to, projected, drop_tolerance, taken}

-- ---- a NaN stays

add-nan : (f : Format) (x : Float) → add f x nan ≡ nan
unfolding add
add-nan f nan = refl
add-nan f (inf s) = refl
add-nan f (fin s m e) = refl

sub-nan : (y : Float) → sub binary64 nan y ≡ nan
unfolding sub add
sub-nan y = refl

sum-nan : (z : Float) (v : ℕ → Float) (k i : ℕ) → i < k → v i ≡ nan → sum_to z v k ≡ nan
unfolding sum_from add
sum-nan z v zero i h e = absurd (omega arith)
sum-nan z v (suc k) i h e = go (dec_lt i k) (λ l. sum-nan z v k i l e)
  where
    go : Dec (i < k) → (i < k → sum_to z v k ≡ nan) → add binary64 (sum_to z v k) (v k) ≡ nan
    go (yes l) r = rw (r l)
    go (no l) r =
        let j : i ≡ k = omega arith in
        ap (add binary64 (sum_to z v k)) (ap v (sym j) ∙ e) ∙ add-nan binary64 (sum_to z v k)

-- v has a NaN at i
record NanAt (i : ℕ) (v : List Float) : Type 0 where
  pub below : i < length v
  pub is : at v i ≡ nan

stripped-nan : (z : Float) (q : List Float) {i : ℕ} {v : List Float} → NanAt i v → NanAt i (stripped z q v)
unfolding stripped
stripped-nan z q {i} {v} h =
    record {
      below = rw (length-tab (less_at (dot_of z q v) q v) (length v)) h.below;
      is = get_or-tab (less_at (dot_of z q v) q v) (length v) i nan h.below ∙ rw h.is (sub-nan _);
    }

pass_nan : (z : Float) (basis : List (List Float)) {i : ℕ} {v : List Float} → NanAt i v → (k : ℕ) → NanAt i (pass_to z basis v k)
unfolding pass_to
pass_nan z basis h zero = h
pass_nan z basis h (suc k) = stripped-nan z (get_or basis k []) (pass_nan z basis h k)

projected-nan : (z : Float) (basis : List (List Float)) {i : ℕ} {v : List Float} → NanAt i v → NanAt i (projected z basis v)
unfolding projected
projected-nan z basis h = pass_nan z basis (pass_nan z basis h (length basis)) (length basis)

square-nan : mul binary64 nan nan ≡ nan
unfolding mul
square-nan = refl

norm_nan : (z : Float) {i : ℕ} {v : List Float} → NanAt i v → norm_of z v ≡ nan
unfolding norm_of dot_of sqrt_of
norm_nan z {i} {v} h = ap sqrt_of (sum-nan z (product v v) (length v) i h.below (ap (λ (x : Float). mul binary64 x x) h.is ∙ square-nan))

-- ---- without one the norm is a number that is not negative

unlike_self : (s : Bool) → unlike s s ≡ false
unlike_self true = refl
unlike_self false = refl

plus-sign : (s : Bool) → s ≡ false → unlike false s ≡ false
plus-sign true e = e
plus-sign false e = refl

inf-size : (s : Bool) → s ≡ false → Size binary64 (inf s)
inf-size s e = record { number = record { held = unfold fits in tt; num = tt }; plus = e }

round-size : (s : Bool) (a c : ℕ) → s ≡ false → Size binary64 (round binary64 s a c)
round-size s a c e =
    let r = rounded binary64 s a c in
    record { number = record { held = round-fits binary64 s a c; num = r.number }; plus = r.signed ∙ e }

square-size : (x : Float) → T (is_num x) → Size binary64 (mul binary64 x x)
unfolding mul
square-size nan n = absurd n
square-size (inf s) n = inf-size (unlike s s) (unlike_self s)
square-size (fin s m e) n = round-size (unlike s s) (m * up e * (m * up e)) (down e * down e) (unlike_self s)

norm_size : (v : List Float) → ((i : ℕ) → i < length v → T (is_num (at v i))) → Size binary64 (norm_of plus_zero v)
unfolding norm_of dot_of
norm_size v h =
    sqrt_size _ (rw (sum-up_is (product v v) (length v)) (sum-size binary64 (product v v) (length v) (λ j l. square-size (at v j) (h j l))))

-- a part of it is one too
part-size : (m : ℕ) (e : ℤ) → eqb m 0 ≡ false → (y : Float) → Size binary64 y → Size binary64 (mul binary64 (fin false m e) y)
unfolding mul
part-size m e h nan p = absurd p.number.num
part-size m e h (inf s) p = rw h (inf-size (unlike false s) (plus-sign s p.plus))
part-size m e h (fin s n d) p = round-size (unlike false s) (m * up e * (n * up d)) (down e * down d) (plus-sign s p.plus)

tolerance_is : drop_tolerance ≡ fin false 0x1B_7CDF_D9D7_BDBB (negsuc 85)
unfolding of_bits
tolerance_is = refl

tolerance_size : (y : Float) → Size binary64 y → Size binary64 (mul binary64 drop_tolerance y)
tolerance_size y p = rw tolerance_is (part-size 0x1B_7CDF_D9D7_BDBB (negsuc 85) refl y p)

-- ---- what is not negative is no less than a zero

zero_under : (x y : Float) → T (is_zero x) → Size binary64 y → le x y ≡ true
zero_under nan y z p = absurd z
zero_under (inf s) y z p = absurd z
zero_under (fin s (suc m) e) y z p = absurd z
zero_under (fin s zero e) y z p =
    le_alike {x = fin s zero e} {x' = nought} (record { flatly = refl }) (alike_refl y)
    ∙ holds (le nought y) (mag→le (finite_number (nought-finite binary64 false)) p.number refl p.plus (rw (mag-nought binary64 false) (omega arith)))

-- ---- the divisor

-- a NaN among the first k, or none
data Found (v : ℕ → Float) (k : ℕ) : Type 0 where
  some : (i : ℕ) → i < k → v i ≡ nan → Found v k
  none : ((i : ℕ) → i < k → T (is_num (v i))) → Found v k

look : (v : ℕ → Float) (k : ℕ) → Found v k
look v zero = none (λ i h. absurd (omega arith))
look v (suc k) = go (v k) refl (look v k)
  where
    last : T (is_num (v k)) → Found v k → Found v (suc k)
    last n (some i h e) = some i (omega arith) e
    last n (none f) = none (λ i h. at_or i h (dec_lt i k))
      where
        at_or : (i : ℕ) → i < suc k → Dec (i < k) → T (is_num (v i))
        at_or i h (yes l) = f i l
        at_or i h (no l) = let j : k ≡ i = omega arith in subst (λ (i : ℕ). T (is_num (v i))) j n

    go : (x : Float) → v k ≡ x → Found v k → Found v (suc k)
    go nan e r = some k (omega arith) e
    go (inf s) e r = last (rw e tt) r
    go (fin s m d) e r = last (rw e tt) r

not_zero : (x : Float) → (T (is_zero x) → ⊥) → T (not (is_zero x))
not_zero nan h = tt
not_zero (inf s) h = tt
not_zero (fin s zero e) h = h tt
not_zero (fin s (suc m) e) h = tt

neither : (s t : Bool) → (not s && not t) ≡ true → t ≡ true → ⊥
neither true t h e = true≢false (sym h)
neither false true h e = true≢false (sym h)
neither false false h e = true≢false (sym e)

pub divisor : (basis : List (List Float)) (v : List Float) → taken plus_zero basis v ≡ true → T (not (is_zero (norm_of plus_zero (projected plus_zero basis v))))
unfolding taken
divisor basis v t = go (look (at v) (length v))
  where
    go : Found (at v) (length v) → T (not (is_zero (norm_of plus_zero (projected plus_zero basis v))))
    go (some i h e) =
        let n : NanAt i v = record { below = h; is = e } in
        subst (λ (x : Float). T (not (is_zero x))) (sym (norm_nan plus_zero (projected-nan plus_zero basis n))) tt
    go (none f) =
        not_zero (norm_of plus_zero (projected plus_zero basis v))
        (λ o. neither (eq (norm_of plus_zero v) plus_zero) (le (norm_of plus_zero (projected plus_zero basis v)) (mul binary64 drop_tolerance (norm_of plus_zero v))) t
        (zero_under (norm_of plus_zero (projected plus_zero basis v)) (mul binary64 drop_tolerance (norm_of plus_zero v)) o
        (tolerance_size (norm_of plus_zero v) (norm_size v f))))
