-- Laws of blocking and freezing: what each leaves in the scratch is what the definitions say, and a basis never has more than l vectors.
use Prim.Native.Nat.{ℕ, zero, suc, ◌+◌, ◌-◌, ◌*◌, ◌≤◌, ◌<◌}
use mathlib.Core.Path.{◌≡◌, refl, sym, ap, ap₂, ◌∙◌}
use mathlib.Core.Bool.{Bool, true, false, ◌&&◌}
use mathlib.Core.List.{List}
use native.Mathlib.Omega.{arith}
use native.Mathlib.Numerals.{add-one}
use borrow.Author.Tests.{lt-ltb, le-ltb, eq-eqb, ne_eqb}
use lib.Dec.{ltb}
use lib.ListN.{length, get_or, take, drop, set, length-set}
use lib.Seq.{length-take-le}
use lib.Ieee.{Float, le}
use Rattle.seq.specs.Choice.{pick}
use Rattle.seq.specs.Lists.{part, placed}
use Rattle.seq.specs.Sums.{plus_zero, at}
use Rattle.seq.proofs.Parts.{length_part, length-placed}
use Rattle.ieee.specs.Magnitude.{abs_of, signum_of}
use Rattle.basis.specs.Basis.{inserted}
use Rattle.basis.specs.Held.{vectors_in, Inserted}
use Rattle.basis.proofs.Bases.{inserted-most, length_vectors}
use Rattle.chosen.specs.ChosenColumns.{Chosen}
use Rattle.chosen.specs.Rows.{row_of}
use Rattle.order.specs.Order.{worst_to}
use Rattle.blocking.specs.Freeze.{freeze_limit, Walk, axis, freezes, blocking, frozen_at, freeze_to}
use Rattle.blocking.specs.Held.{ax_in, basis_in, held, Roomy, worst_in, room_for, Blocked, FreezesOne}
use Rattle.blocking.proofs.Scratch.{rest_is, back-rest, back_front, walk_path}
use Rattle.draw.specs.declared.SplitMix64.{SplitMix64}
use Rattle.draw.specs.SplitMix.{seeded}

-- columns that are chosen for some rows are chosen for n
pub chosen_own : {matrix : List Float} {bits : List ℕ} {n : ℕ} {cols : List ℕ} {scale : List Float} {rows : ℕ} → Chosen matrix bits n cols scale rows
    → Chosen matrix bits n cols scale n
chosen_own c =
    record { low = omega arith; high = omega arith; short = omega arith; few = c.few; paired = c.paired; inside = c.inside; sound = c.sound }

-- ---- one insertion into the basis that the scratch holds

module _ (l count r base : ℕ) (numbers v ys : List Float) (within : base ≤ length numbers)
    (i : Inserted plus_zero count l (part base (length numbers - base) numbers) v r ys) where
  pub offered_count : r ≡ length (inserted plus_zero l (vectors_in l count (drop base numbers)) v)
  offered_count = i.counts ∙ ap (λ (b : List Float). length (inserted plus_zero l (vectors_in l count b) v)) (rest_is base numbers)

  pub offered_basis : vectors_in l r (drop base (placed base (length numbers - base) numbers ys)) ≡ inserted plus_zero l (vectors_in l count (drop base numbers)) v
  offered_basis =
      ap (vectors_in l r) (back-rest base numbers ys within) ∙ i.holds
      ∙ ap (λ (b : List Float). inserted plus_zero l (vectors_in l count b) v) (rest_is base numbers)

  pub offered_most : count ≤ l → r ≤ l
  offered_most h = omega (
    arith,
    offered_count,
    inserted-most plus_zero l (vectors_in l count (drop base numbers)) v (omega (arith, length_vectors l count (drop base numbers))),
  )

-- ---- the worst row is blocked, where there is room

module _ (a : ℕ → ℕ → Float) (l : ℕ) (numbers : List Float) (blocked : List ℕ) (count i : ℕ) where
  abbrev rows : ℕ
  rows = length blocked

  abbrev base : ℕ
  base = rows + rows + rows

  -- the row that `worst` finds in the first rows of the scratch
  pub worst_is : rows ≤ length numbers
      → i ≡ worst_to (take rows numbers) blocked (length (take rows numbers)) (length (take rows numbers)) → i ≡ worst_in numbers blocked
  worst_is h e = e ∙ ap (λ k. worst_to (take rows numbers) blocked k k) (length-take-le rows numbers h)

  no_room : room_for numbers blocked l count ≡ false → Blocked a l numbers blocked count count numbers blocked
  no_room e = record { ax = refl; marks = rw e; basis = rw e }

  pub all_blocked : i ≡ worst_in numbers blocked → rows ≤ i → Blocked a l numbers blocked count count numbers blocked
  all_blocked e h = no_room (rw (← e, le-ltb i rows h))

  and_no : (t s : Bool) → s ≡ false → (t && s) ≡ false
  and_no true s e = e
  and_no false s e = refl

  pub basis_full : l ≤ count → Blocked a l numbers blocked count count numbers blocked
  basis_full h = no_room (and_no (ltb (worst_in numbers blocked) rows) (ltb count l) (le-ltb count l h))

  pub blocks : (r : ℕ) (ys : List Float) → i ≡ worst_in numbers blocked → i < rows → count < l → base ≤ length numbers
      → Inserted plus_zero count l (part base (length numbers - base) numbers) (row_of a l i) r ys
      → Blocked a l numbers blocked count r (placed base (length numbers - base) numbers ys) (set blocked i 1)
  blocks r ys e h g within o =
      let room : room_for numbers blocked l count ≡ true = rw (← e, lt-ltb i rows h, lt-ltb count l g) in
      record {
        ax = back_front base numbers ys within rows (omega arith);
        marks = rw (room, ← e);
        basis = offered_basis l count r base numbers (row_of a l i) ys within o ∙ rw (room, ← e);
      }

-- ---- a coordinate is frozen

module _ (a : ℕ → ℕ → Float) (l : ℕ) (numbers : List Float) (blocked : List ℕ) (x : List Float) (free : List ℕ) (count p c r : ℕ) (s : Float)
    (ys numbers' : List Float) (blocked' : List ℕ) (room : Roomy l numbers blocked x free count) where
  -- of n rows
  abbrev n : ℕ
  n = length blocked

  abbrev lent : ℕ
  lent = n + n + n

  abbrev num1 : List Float
  num1 = placed lent (length numbers - lent) numbers ys

  -- the basis with the axis
  abbrev grown : List (List Float)
  grown = inserted plus_zero l (basis_in n (length x) count numbers) (axis l p)

  -- what is asked before the worst row is blocked
  pub room_after : (v : List Float) → length ys ≡ length (part lent (length numbers - lent) numbers)
      → Inserted plus_zero count l (part lent (length numbers - lent) numbers) v c ys → (n + n + n + l * l ≤ length num1) × (c ≤ l)
  room_after v ly o =
      let within : lent ≤ length numbers = omega (arith, room.room) in
      let long : length ys ≡ length numbers - lent = ly ∙ length_part lent (length numbers - lent) numbers (omega arith) in (
        omega (arith, length-placed lent (length numbers - lent) numbers ys (omega arith) long, room.room),
        offered_most l count c lent numbers v ys within o room.most,
      )

  pub freezes-at : (v : List Float) → v ≡ axis l p → s ≡ signum_of (at x p)
      → Inserted plus_zero count l (part lent (length numbers - lent) numbers) v c ys
      → Blocked a l num1 blocked c r numbers' blocked' → length blocked' ≡ n
      → FreezesOne a l numbers blocked x free count p r numbers' blocked' (set x p s) (set free p 0)
  unfolding frozen_at
  freezes-at v ev es given b lb =
      let o : Inserted plus_zero count l (part lent (length numbers - lent) numbers) (axis l p) c ys = rw ev at given in
      let within : lent ≤ length numbers = omega (arith, room.room) in
      let ax1 : ax_in n num1 ≡ ax_in n numbers = back_front lent numbers ys within n (omega arith) in
      let wide : inserted plus_zero l (vectors_in l count (drop lent numbers)) (axis l p) ≡ grown =
      ap (λ (k : ℕ). inserted plus_zero l (vectors_in k count (drop lent numbers)) (axis l p)) (sym room.wide) in
      let ec : c ≡ length grown = offered_count l count c lent numbers (axis l p) ys within o ∙ ap length wide in
      let eb : basis_in n l c num1 ≡ grown = offered_basis l count c lent numbers (axis l p) ys within o ∙ wide in
      record {
        holds = λ frozen rng. walk_path (ap (set x p) es) refl refl
            (ap (λ (k : ℕ). ax_in k numbers') lb ∙ b.ax ∙ ax1)
            (b.marks
            ∙ ap₂ (λ (ax : List Float) (k : ℕ). pick (ltb (worst_to ax blocked n n) n && ltb k l) (set blocked (worst_to ax blocked n n) 1) blocked) ax1 ec)
            (ap₂ (λ (k m : ℕ). basis_in k m r numbers') lb (length-set x p s ∙ room.wide)
            ∙ b.basis
            ∙ ap₂ (λ (ax : List Float) (k : ℕ). pick (ltb (worst_to ax blocked n n) n && ltb k l)
            (blocking plus_zero a l (worst_to ax blocked n n) (basis_in n l c num1)) (basis_in n l c num1)) ax1 ec
            ∙ ap (λ (q : List (List Float)). pick (ltb (worst_to (ax_in n numbers) blocked n n) n && ltb (length grown) l)
            (blocking plus_zero a l (worst_to (ax_in n numbers) blocked n n) q) q) eb)
            refl;
      }

-- ---- a basis never has more than l vectors

module _ (z : Float) (a : ℕ → ℕ → Float) (l n : ℕ) where
  pub frozen_most : (w : Walk) (p : ℕ) → length w.basis ≤ l → length (frozen_at z a l n w p).basis ≤ l
  unfolding frozen_at
  frozen_most w p h = go (ltb (worst_to w.ax w.blocked n n) n && ltb (length b) l) (inserted-most z l w.basis (axis l p) h)
    where
      b : List (List Float)
      b = inserted z l w.basis (axis l p)

      go : (t : Bool) → length b ≤ l → length (pick t (blocking z a l (worst_to w.ax w.blocked n n) b) b) ≤ l
      go true k = inserted-most z l b (row_of a l (worst_to w.ax w.blocked n n)) k
      go false k = k

  pub freeze_most : (w : Walk) (k : ℕ) → length w.basis ≤ l → length (freeze_to z a l n w k).basis ≤ l
  unfolding freeze_to
  freeze_most w zero h = h
  freeze_most w (suc k) h = go (freezes (freeze_to z a l n w k) k) (freeze_most w k h)
    where
      go : (t : Bool) → length (freeze_to z a l n w k).basis ≤ l
          → length (pick t (frozen_at z a l n (freeze_to z a l n w k) k) (freeze_to z a l n w k)).basis ≤ l
      go true e = frozen_most (freeze_to z a l n w k) k e
      go false e = e

  -- the turns of the loop over the coordinates
  pub freeze_one : (w v w' : Walk) (k : ℕ) → v ≡ freeze_to z a l n w k → freezes v k ≡ true → w' ≡ frozen_at z a l n v k → w' ≡ freeze_to z a l n w (k + 1)
  unfolding freeze_to
  freeze_one w v w' k e f g = g ∙ rw (add-one k, ← e, f)

  pub freeze_none : (w v : Walk) (k : ℕ) → v ≡ freeze_to z a l n w k → freezes v k ≡ false → v ≡ freeze_to z a l n w (k + 1)
  unfolding freeze_to
  freeze_none w v k e f = rw (add-one k, ← e, f)

  pub freeze_zero : (w : Walk) → w ≡ freeze_to z a l n w 0
  unfolding freeze_to
  freeze_zero w = refl

-- the number of vectors in the scratch is at most l where the walk that it holds has at most l
pub count_most : (l r : ℕ) (numbers : List Float) (blocked : List ℕ) (x : List Float) (free : List ℕ) (frozen : ℕ) (rng : SplitMix64) (w : Walk)
    → held numbers blocked x free r frozen rng ≡ w → length w.basis ≤ l → r ≤ l
count_most l r numbers blocked x free frozen rng w e h =
    let b : length (basis_in (length blocked) (length x) r numbers) ≡ length w.basis = ap (λ (v : Walk). length v.basis) e in
    omega (arith, length_vectors (length x) r (drop (length blocked + length blocked + length blocked) numbers))

-- ---- the loop that freezes

-- what holds after the coordinates below p were looked at
pub record Freezing (a : ℕ → ℕ → Float) (l : ℕ) (numbers₀ : List Float) (blocked₀ : List ℕ) (x₀ : List Float) (free₀ : List ℕ)
    (v₀ : List Float) (count₀ frozen₀ : ℕ)
    (numbers : List Float) (blocked : List ℕ) (x : List Float) (free : List ℕ) (v : List Float) (count frozen p : ℕ) : Type 0 where
  pub upto : p ≤ l
  pub roomy : Roomy l numbers blocked x free count
  pub nums : length numbers ≡ length numbers₀
  pub rows : length blocked ≡ length blocked₀
  pub xs : length x ≡ length x₀
  pub frees : length free ≡ length free₀
  pub vs : length v ≡ length v₀
  pub few : frozen ≤ frozen₀ + p
  pub fits : length (basis_in (length blocked₀) (length x₀) count₀ numbers₀) ≤ l
  pub holds : (rng : SplitMix64) → held numbers blocked x free count frozen rng
      ≡ freeze_to plus_zero a l (length blocked₀) (held numbers₀ blocked₀ x₀ free₀ count₀ frozen₀ rng) p

module _ (a : ℕ → ℕ → Float) (l : ℕ) (numbers₀ : List Float) (blocked₀ : List ℕ) (x₀ : List Float) (free₀ : List ℕ) (v₀ : List Float) (count₀ frozen₀ : ℕ) where
  pub freezing_start : Roomy l numbers₀ blocked₀ x₀ free₀ count₀
      → Freezing a l numbers₀ blocked₀ x₀ free₀ v₀ count₀ frozen₀ numbers₀ blocked₀ x₀ free₀ v₀ count₀ frozen₀ 0
  freezing_start r =
      record {
        upto = omega arith;
        roomy = r;
        nums = refl;
        rows = refl;
        xs = refl;
        frees = refl;
        vs = refl;
        few = omega arith;
        fits = omega (arith, length_vectors (length x₀) count₀ (drop (length blocked₀ + length blocked₀ + length blocked₀) numbers₀), r.most);
        holds = λ rng. freeze_zero plus_zero a l (length blocked₀) (held numbers₀ blocked₀ x₀ free₀ count₀ frozen₀ rng);
      }

  module _ (numbers : List Float) (blocked : List ℕ) (x : List Float) (free : List ℕ) (v : List Float) (count frozen p : ℕ)
      (i : Freezing a l numbers₀ blocked₀ x₀ free₀ v₀ count₀ frozen₀ numbers blocked x free v count frozen p) (more : p < l) where
    pub freezing_none : ((rng : SplitMix64) → freezes (held numbers blocked x free count frozen rng) p ≡ false)
        → Freezing a l numbers₀ blocked₀ x₀ free₀ v₀ count₀ frozen₀ numbers blocked x free v count frozen (p + 1)
    freezing_none f =
        record {
          upto = omega arith;
          roomy = i.roomy;
          nums = i.nums;
          rows = i.rows;
          xs = i.xs;
          frees = i.frees;
          vs = i.vs;
          few = omega (arith, i.few);
          fits = i.fits;
          holds = λ rng. freeze_none plus_zero a l (length blocked₀) (held numbers₀ blocked₀ x₀ free₀ count₀ frozen₀ rng)
              (held numbers blocked x free count frozen rng) p (i.holds rng) (f rng);
        }

    pub freezing_one : (numbers' : List Float) (blocked' : List ℕ) (x' : List Float) (free' : List ℕ) (v' : List Float) (r : ℕ)
        → ((rng : SplitMix64) → freezes (held numbers blocked x free count frozen rng) p ≡ true)
        → length numbers' ≡ length numbers → length blocked' ≡ length blocked → length x' ≡ length x → length free' ≡ length free → length v' ≡ length v
        → FreezesOne a l numbers blocked x free count p r numbers' blocked' x' free'
        → Freezing a l numbers₀ blocked₀ x₀ free₀ v₀ count₀ frozen₀ numbers' blocked' x' free' v' r (frozen + 1) (p + 1)
    freezing_one numbers' blocked' x' free' v' r f ln lb lx lf lv h =
        let n : ℕ = length blocked₀ in
        let w : SplitMix64 → Walk = λ rng. held numbers₀ blocked₀ x₀ free₀ count₀ frozen₀ rng in
        let step : (rng : SplitMix64) → held numbers' blocked' x' free' r (frozen + 1) rng ≡ freeze_to plus_zero a l n (w rng) (p + 1) =
        λ rng. freeze_one plus_zero a l n (w rng) (held numbers blocked x free count frozen rng) (held numbers' blocked' x' free' r (frozen + 1) rng) p
        (i.holds rng)
        (f rng) (h.holds frozen rng ∙ ap (λ (k : ℕ). frozen_at plus_zero a l k (held numbers blocked x free count frozen rng) p) i.rows) in
        let q : Roomy l numbers blocked x free count = i.roomy in
        let any : SplitMix64 = seeded 0 1 in
        record {
          upto = omega arith;
          roomy = record {
            room = omega (arith, ln, lb, q.room, rw (← lb) at q.room);
            wide = lx ∙ q.wide;
            marks = lf ∙ q.marks;
            most = count_most l r numbers' blocked' x' free' (frozen + 1) any (freeze_to plus_zero a l n (w any) (p + 1)) (step any)
                (freeze_most plus_zero a l n (w any) (p + 1) i.fits);
          };
          nums = ln ∙ i.nums;
          rows = lb ∙ i.rows;
          xs = lx ∙ i.xs;
          frees = lf ∙ i.frees;
          vs = lv ∙ i.vs;
          few = omega (arith, i.few);
          fits = i.fits;
          holds = step;
        }

-- the test of the loop, on the free marks and the coordinates of any walk
module _ (numbers : List Float) (blocked : List ℕ) (x : List Float) (free : List ℕ) (count frozen p : ℕ) where
  pub freezes_near : (d : Float) → get_or free p 0 ≡ 1 → d ≡ abs_of (at x p) → le freeze_limit d ≡ true
      → (rng : SplitMix64) → freezes (held numbers blocked x free count frozen rng) p ≡ true
  freezes_near d h e k rng = rw (eq-eqb (get_or free p 0) 1 h, ← e, k)

  pub freezes_far : (d : Float) → get_or free p 0 ≡ 1 → d ≡ abs_of (at x p) → le freeze_limit d ≡ false
      → (rng : SplitMix64) → freezes (held numbers blocked x free count frozen rng) p ≡ false
  freezes_far d h e k rng = rw (eq-eqb (get_or free p 0) 1 h, ← e, k)

  pub freezes_not : (get_or free p 0 ≡ 1 → ⊥) → (rng : SplitMix64) → freezes (held numbers blocked x free count frozen rng) p ≡ false
  freezes_not h rng = rw (ne_eqb (get_or free p 0) 1 h)
