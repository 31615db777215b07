-- What makes a phase's matrix fair: entries of at most 2 ^ 32, and either at most 60 columns, or no row that is tiny and not 0.
use mathlib.Core.Path.{◌≡◌, refl, sym, ap, ◌∙◌, subst}
use mathlib.Core.Logic.{◌⊎◌, inl, inr}
use Prim.Native.Nat.{ℕ, zero, suc, ◌^◌, ◌≤◌, ◌<◌, zero-le}
use native.Mathlib.Nat.{le_trans, le_of_eq, le-suc, lt-suc_self}
use native.Mathlib.Decide.{dec_lt}
use native.Mathlib.Omega.{arith}
use borrow.Author.Tests.{eqb-true, eqb-false}
use mathlib.Core.Bool.{Bool, true, false, not, ◌&&◌, ◌||◌}
use lib.Dec.{T, eqb, leb, leb→le, le→leb, lit≤}
use lib.ListN.{length, get_or, length-set}
use lib.Seq.{get_or-set_same, get_or-set_other}
use lib.Ieee.{Float, nan, binary64, of_bits, fits, le, lt}
use Rattle.seq.specs.Lists.{repeated}
use Rattle.seq.specs.Sums.{plus_zero, at}
use Rattle.seq.proofs.Choosing.{shown, holds}
use Rattle.seq.proofs.Every.{every_at, every_holds}
use Rattle.seq.proofs.Filling.{length-tab, get_or-tab}
use Rattle.seq.proofs.Keeping.{keep_short, keep-good}
use Rattle.ieee.specs.Units.{mag}
use Rattle.ieee.specs.Flat.{is_zero}
use Rattle.ieee.specs.Magnitude.{abs_of}
use Rattle.ieee.proofs.Ranks.{Number, le→mag, lt_not_le}
use Rattle.ieee.proofs.Ops.{Finite, finite_number}
use Rattle.ieee.proofs.Signs.{nought-finite}
use Rattle.ieee.proofs.Sums.{abs_size, abs_mag}
use Rattle.ieee.proofs.Division.{unit-finite}
use Rattle.seq.specs.Keep.{all_to}
use Rattle.chosen.specs.Rows.{row_of}
use Rattle.seq.specs.Marks.{is_set}
use Rattle.phased.specs.Phase.{Between}
use Rattle.ieee.specs.Constants.{one}
use Rattle.blocking.specs.Freeze.{axis}
use Rattle.bounded.proofs.Within.{Within, no_units}
use Rattle.bounded.proofs.Taken.{Spot, Blank}
use Rattle.bounded.proofs.Bases.{Row, Basis, inserted-keeps}
use Rattle.bounded.proofs.Loose.{WideRow, Few, inserted_few}
use Rattle.progress.specs.Clear.{least_entry, blank_row, tiny_row, clear, Clear, sizable, Sizable}
use Rattle.progress.specs.Original.{Generator, before, columns_at, entries_at}
use Rattle.progress.proofs.Standing.{Fair}
use Rattle.progress.proofs.Directions.{finite_direction, directed_within, directed_few}

-- each entry of l columns and n rows is at most 2 ^ 32
pub record Bounded (l n : ℕ) (a : ℕ → ℕ → Float) : Type 0 where
  pub each : (p i : ℕ) → p < l → i < n → Within binary64 (2 ^ 1106) (a p i)

-- ---- an axis is a row too

one_within : Within binary64 (2 ^ 1106) one
unfolding of_bits
one_within = record { ends = unit-finite binary64; most = lit≤ tt }

zero_within : Within binary64 (2 ^ 1106) plus_zero
unfolding of_bits
zero_within = record { ends = nought-finite binary64 false; most = lit≤ tt }

flat-at : (l j : ℕ) → j < l → at (repeated plus_zero l) j ≡ plus_zero
flat-at l j h = get_or-tab (λ (i : ℕ). plus_zero) l j nan h

axis_there : (l p : ℕ) → p < l → at (axis l p) p ≡ one
axis_there l p h = get_or-set_same (repeated plus_zero l) p one nan (subst (λ (m : ℕ). p < m) (sym (length-tab (λ (i : ℕ). plus_zero) l)) h)

axis-lent : (l p : ℕ) → WideRow l (axis l p)
axis-lent l p = record { wide = length-set (repeated plus_zero l) p one ∙ length-tab (λ (i : ℕ). plus_zero) l; each = λ j h. go j h (eqb j p) refl }
  where
    go : (j : ℕ) → j < l → (t : Bool) → eqb j p ≡ t → Within binary64 (2 ^ 1106) (at (axis l p) j)
    go j h true e =
        let i : j ≡ p = eqb-true j p e in
        subst (Within binary64 (2 ^ 1106)) (sym (ap (at (axis l p)) i ∙ axis_there l p (subst (λ (m : ℕ). m < l) i h))) one_within
    go j h false e = subst (Within binary64 (2 ^ 1106)) (sym (get_or-set_other (repeated plus_zero l) p j one nan (eqb-false j p e) ∙ flat-at l j h)) zero_within

one_large : 2 ^ 594 ≤ mag binary64 one
unfolding of_bits
one_large = lit≤ tt

zero_none : mag binary64 plus_zero ≡ 0
unfolding of_bits
zero_none = refl

axis_row : (l p : ℕ) → Row l (axis l p)
axis_row l p = record { wide = (axis-lent l p).wide; each = (axis-lent l p).each; clear = go (dec_lt p l) }
  where
    go : Dec (p < l) → Spot l (at (axis l p)) ⊎ Blank l (at (axis l p))
    go (yes h) = inl (record { place = p; under = h; there = subst (λ (x : Float). 2 ^ 594 ≤ mag binary64 x) (sym (axis_there l p h)) one_large })
    go (no h) =
        inr (record {
          each = λ j g. ap (mag binary64) (get_or-set_other (repeated plus_zero l) p j one nan (λ e. absurd (let z : ⊥ = omega arith in z))
              ∙ flat-at l j g) ∙ zero_none;
        })

-- ---- the tests on a row

all_at : (f : ℕ → Bool) (k : ℕ) → T (all_to f k) → (j : ℕ) → j < k → T (f j)
all_at f k h j l = shown (f j) (every_at f k j (holds (all_to f k) h) l)

all_of : (f : ℕ → Bool) (k : ℕ) → ((j : ℕ) → j < k → T (f j)) → T (all_to f k)
all_of f k h = shown (all_to f k) (every_holds f k (λ j l. holds (f j) (h j l)))

-- one that fails
pub record Fails (f : ℕ → Bool) (k : ℕ) : Type 0 where
  pub place : ℕ
  pub under : place < k
  pub not_there : T (not (f place))

some_fails : (f : ℕ → Bool) (k : ℕ) → T (not (all_to f k)) → Fails f k
unfolding all_to
some_fails f zero h = absurd h
some_fails f (suc k) h = go (all_to f k) (f k) refl (some_fails f k) h
  where
    go : (s t : Bool) → f k ≡ t → (T (not s) → Fails f k) → T (not (s && t)) → Fails f (suc k)
    go true t e r h = record { place = k; under = lt-suc_self k; not_there = subst (λ (b : Bool). T (not b)) (sym e) h }
    go false t e r h = let c = r h in record { place = c.place; under = le_trans c.under (le-suc k); not_there = c.not_there }

least_number : Number binary64 least_entry
unfolding fits
least_number = record { held = tt; num = tt }

not_twice : (b : Bool) → T (not (not b)) → T b
not_twice true t = t
not_twice false t = t

large_units : {x : Float} → Finite binary64 x → T (not (lt (abs_of x) least_entry)) → 2 ^ 594 ≤ mag binary64 x
large_units {x} p t =
    let a = abs_size (finite_number p) in
    let g : T (le least_entry (abs_of x)) = not_twice (le least_entry (abs_of x)) (subst (λ (b : Bool). T (not b)) (lt_not_le a.number least_number) t) in
    le_trans (lit≤ tt) (le_trans (le→mag least_number a.number refl a.plus g) (le_of_eq (abs_mag binary64 x)))

module _ (a : ℕ → ℕ → Float) (l n : ℕ) (bounded : Bounded l n a) where
  row_at : (i j : ℕ) → j < l → at (row_of a l i) j ≡ a j i
  row_at i j h = get_or-tab (λ q. a q i) l j nan h

  row_lent : (i : ℕ) → i < n → WideRow l (row_of a l i)
  row_lent i h = record { wide = length-tab (λ q. a q i) l; each = λ j g. subst (Within binary64 (2 ^ 1106)) (sym (row_at i j g)) (bounded.each j i g h) }

  -- a row that is 0, or not tiny
  row_clear : (i : ℕ) → i < n → T (blank_row a l i || not (tiny_row a l i)) → Spot l (at (row_of a l i)) ⊎ Blank l (at (row_of a l i))
  row_clear i h t = go (blank_row a l i) refl t
    where
      go : (b : Bool) → blank_row a l i ≡ b → T (b || not (tiny_row a l i)) → Spot l (at (row_of a l i)) ⊎ Blank l (at (row_of a l i))
      go true e t = inr (record { each = λ j g. ap (mag binary64) (row_at i j g) ∙ no_units (a j i) (all_at (λ p. is_zero (a p i)) l (subst T (sym e) tt) j g) })
      go false e t =
          let c = some_fails (λ p. lt (abs_of (a p i)) least_entry) l t in
          inl (record {
            place = c.place;
            under = c.under;
            there =
                subst (λ (x : Float). 2 ^ 594 ≤ mag binary64 x) (sym (row_at i c.place c.under))
                (large_units (bounded.each c.place i c.under h).ends c.not_there);
          })

  -- ---- fair by its rows

  fair_rows : l ≤ 256 → ((i : ℕ) → i < n → T (blank_row a l i || not (tiny_row a l i))) → Fair a l n
  fair_rows small rows = record {
    Good = Basis l;
    none = record { few = zero-le; each = λ i h. absurd (let z : ⊥ = omega arith in z) };
    axes = λ basis p b. inserted-keeps small b (axis_row l p);
    rows = λ basis i h b. inserted-keeps small b (record { wide = (row_lent i h).wide; each = (row_lent i h).each; clear = row_clear i h (rows i h) });
    finite_on = λ basis free rng b. finite_direction (directed_within free rng small b);
  }

  -- ---- fair by its few columns

  fair_few : l ≤ 60 → Fair a l n
  fair_few small = record {
    Good = Few l;
    none = record { few = zero-le; each = λ i h. absurd (let z : ⊥ = omega arith in z) };
    axes = λ basis p b. inserted_few small b (axis-lent l p);
    rows = λ basis i h b. inserted_few small b (row_lent i h);
    finite_on = λ basis free rng b. directed_few free rng small b;
  }

  pub fair_clear : l ≤ 256 → T (clear a l n) → Fair a l n
  unfolding clear
  fair_clear small t = go (leb l 60) refl t
    where
      go : (b : Bool) → leb l 60 ≡ b → T (b || all_to (λ i. blank_row a l i || not (tiny_row a l i)) n) → Fair a l n
      go true e t = fair_few (leb→le l 60 (subst T (sym e) tt))
      go false e t = fair_rows small (all_at (λ i. blank_row a l i || not (tiny_row a l i)) n t)

-- ---- where every phase is clear

-- columns of bounded entries, some of them chosen
pub bounded-chosen : {k l n : ℕ} {a : ℕ → ℕ → Float} (place : ℕ → ℕ) → ((p : ℕ) → p < l → place p < k) → Bounded k n a → Bounded l n (λ p. a (place p))
bounded-chosen place inside b = record { each = λ p i h g. b.each (place p) i (inside p h) g }

not_all : (f : ℕ → Bool) (k : ℕ) → Fails f k → T (not (all_to f k))
not_all f k c = go (all_to f k) (λ t. all_at f k t c.place c.under)
  where
    clash : (b : Bool) → T (not b) → T b → ⊥
    clash true n y = n
    clash false n y = y

    go : (s : Bool) → (T s → T (f c.place)) → T (not s)
    go true h = absurd (clash (f c.place) c.not_there (h tt))
    go false h = tt

-- a row of entries that are 0 or at least 2 ^ -480 is 0, or not tiny
pub sizable_row : (a : ℕ → ℕ → Float) (l n i : ℕ) → Bounded l n a → i < n → ((p : ℕ) → p < l → T (sizable (a p i))) → T (blank_row a l i || not (tiny_row a l i))
sizable_row a l n i b h s = go (blank_row a l i) refl
  where
    here : (t : Bool) → T (not t) → (r : Bool) → T (t || r) → T r
    here true n r y = absurd n
    here false n r y = y

    off : (x : Bool) → T x → T (not (not x))
    off true t = t
    off false t = t

    large : Fails (λ p. is_zero (a p i)) l → Fails (λ p. lt (abs_of (a p i)) least_entry) l
    large c =
        let x = a c.place i in
        let g = here (is_zero x) c.not_there (le least_entry (abs_of x)) (s c.place c.under) in
        let number = (abs_size (finite_number (b.each c.place i c.under h).ends)).number in
        record {
          place = c.place;
          under = c.under;
          not_there = subst (λ (t : Bool). T (not t)) (sym (lt_not_le number least_number))
              (off (le least_entry (abs_of x)) g);
        }

    go : (t : Bool) → blank_row a l i ≡ t → T (t || not (tiny_row a l i))
    go true e = tt
    go false e = not_all (λ p. lt (abs_of (a p i)) least_entry) l (large (some_fails (λ p. is_zero (a p i)) l (subst (λ (t : Bool). T (not t)) (sym e) tt)))

-- a matrix of such entries is clear in every phase
pub clear-sizable : (a : ℕ → ℕ → Float) (k n : ℕ) (rng : Generator) → Bounded k n a → Sizable k n a → Clear a k n rng
unfolding clear
clear-sizable a k n rng b s = record { phases = λ i. here (before plus_zero a k n rng i) }
  where
    or_right : (x y : Bool) → T y → T (x || y)
    or_right true y t = tt
    or_right false y t = t

    here : (c : Between)
        → T (leb (length (columns_at k c)) 60 || all_to (λ i. blank_row (entries_at a k c) (length (columns_at k c)) i || not
        (tiny_row (entries_at a k c) (length (columns_at k c)) i)) n)
    here c =
        let l = length (columns_at k c) in
        let inside : (p : ℕ) → p < l → get_or (columns_at k c) p 0 < k = λ p h. (keep-good (is_set c.free) k p h).1 in
        or_right (leb l 60) (all_to (λ i. blank_row (entries_at a k c) l i || not (tiny_row (entries_at a k c) l i)) n)
        (all_of (λ i. blank_row (entries_at a k c) l i || not (tiny_row (entries_at a k c) l i)) n
        (λ i h. sizable_row (entries_at a k c) l n i (bounded-chosen (λ p. get_or (columns_at k c) p 0) inside b) h
        (λ p g. s.each (get_or (columns_at k c) p 0) i (inside p g) h)))

-- and so is every phase of a colouring of at most 60 columns
pub clear_few : (a : ℕ → ℕ → Float) (k n : ℕ) (rng : Generator) → k ≤ 60 → Clear a k n rng
unfolding clear
clear_few a k n rng h = record { phases = λ i. here (before plus_zero a k n rng i) }
  where
    or_left : (x y : Bool) → T x → T (x || y)
    or_left true y t = tt
    or_left false y t = absurd t

    here : (c : Between)
        → T (leb (length (columns_at k c)) 60 || all_to (λ i. blank_row (entries_at a k c) (length (columns_at k c)) i || not
        (tiny_row (entries_at a k c) (length (columns_at k c)) i)) n)
    here c = or_left (leb (length (columns_at k c)) 60) _ (le→leb (length (columns_at k c)) 60 (le_trans (keep_short (is_set c.free) k) h))
