-- Laws of `tabulate`, and of a loop that fills a list from the front: its invariant is `Filled`, and `start`, `turn` (or `skip`, which stores nothing) and
-- `whole` are its steps.
use Prim.Native.Nat.{ℕ, zero, suc, ◌+◌, ◌*◌, ◌-◌, ◌≤◌, ◌<◌}
use mathlib.Core.Path.{◌≡◌, refl, sym, ap, ◌∙◌}
use mathlib.Core.List.{List, [], ◌∷◌, ◌++◌, append-nil}
use native.Mathlib.Nat.{mul-le-mul_right}
use native.Mathlib.Decide.{dec_lt}
use native.Mathlib.Omega.{arith}
use native.Mathlib.Numerals.{add-one}
use lib.ListN.{length, get_or, take, drop, set, length-set, length-append, get_or-append, take-append-drop, drop_of_length-le}
use lib.Seq.{take_all, take-suc, drop-cons, set_at, get_or_at, drop-length, append_snoc, get_or-append-add, get_or-drop, length-take-le}
use Rattle.seq.specs.Lists.{tabulate}

module _ {A : Type 0} where
  pub length-tab : (f : ℕ → A) (k : ℕ) → length (tabulate f k) ≡ k
  unfolding tabulate
  length-tab f zero = refl
  length-tab f (suc k) = length-append (tabulate f k) (f k ∷ []) ∙ omega (arith, length-tab f k)

  -- what a loop that fills v from the front with f 0, f 1, .. holds after i turns
  abbrev pub filled : (ℕ → A) → List A → ℕ → List A
  filled f v i = tabulate f i ++ drop i v

  pub filled_none : (f : ℕ → A) (v : List A) → v ≡ filled f v 0
  unfolding tabulate
  filled_none f v = refl

  -- a turn: one store
  pub filled_more : (f : ℕ → A) (v : List A) (i : ℕ) (z : A) → i < length v → set (filled f v i) i (f i) ≡ filled f v (i + 1)
  unfolding tabulate
  filled_more f v i z h =
      rw (add-one i, drop-cons v i z)
      (set_at (tabulate f i) (get_or v i z) (drop (suc i) v) (f i) i (length-tab f i) ∙ sym (append_snoc (tabulate f i) (f i) (drop (suc i) v)))

  -- what is not yet stored is as it was
  pub filled_at : (f : ℕ → A) (v : List A) (i : ℕ) (z : A) → i < length v → get_or (filled f v i) i z ≡ get_or v i z
  filled_at f v i z h = rw (drop-cons v i z) (get_or_at (tabulate f i) (get_or v i z) (drop (suc i) v) z i (length-tab f i))

  pub filled_all : (f : ℕ → A) (v : List A) (i : ℕ) → length v ≤ i → i ≤ length v → filled f v i ≡ tabulate f (length v)
  filled_all f v i h k =
      let e : i ≡ length v = omega arith in
      rw (e, drop-length v) (append-nil _)

  -- v is w with f 0, .., f (i - 1) in its first i places: the invariant of a loop that fills
  pub record Filled (f : ℕ → A) (w : List A) (i : ℕ) (v : List A) : Type 0 where
    pub upto : i ≤ length w
    pub long : length v ≡ length w
    pub is : v ≡ filled f w i

  pub start : (f : ℕ → A) (w : List A) → Filled f w 0 w
  start f w = record { upto = omega arith; long = refl; is = filled_none f w }

  pub turn : {f : ℕ → A} {w v : List A} {i : ℕ} {x : A} → Filled f w i v → i < length w → x ≡ f i → Filled f w (i + 1) (set v i x)
  turn {f} {w} {v} {i} {x} e h k =
      record { upto = omega arith; long = length-set v i x ∙ e.long; is = rw (e.is, k) (filled_more f w i x h) }

  -- a turn that stores nothing, where the place is right already
  pub skip : {f : ℕ → A} {w v : List A} {i : ℕ} (z : A) → Filled f w i v → i < length w → f i ≡ get_or w i z → Filled f w (i + 1) v
  unfolding tabulate
  skip {f} {w} {v} {i} z e h k =
      record {
        upto = omega arith;
        long = e.long;
        is = e.is ∙ rw (add-one i, drop-cons w i z h, ← k) (sym (append_snoc (tabulate f i) (f i) (drop (suc i) w)));
      }

  pub still : {f : ℕ → A} {w v : List A} {i : ℕ} → Filled f w i v → i < length w → (z : A) → get_or v i z ≡ get_or w i z
  still {f} {w} {v} {i} e h z = rw e.is (filled_at f w i z h)

  pub whole : {f : ℕ → A} {w v : List A} {i : ℕ} → Filled f w i v → length w ≤ i → v ≡ tabulate f (length w)
  whole {f} {w} {v} {i} e h = e.is ∙ filled_all f w i h e.upto

-- the k-th of n rows of l ends within n rows
pub room : (k n l : ℕ) → k < n → k * l + l ≤ n * l
room k n l h = omega (arith, mul-le-mul_right l h)

module _ {A : Type 0} where
  pub get_or-tab : (f : ℕ → A) (k i : ℕ) (z : A) → i < k → get_or (tabulate f k) i z ≡ f i
  unfolding tabulate
  get_or-tab f zero i z h = absurd (omega arith)
  get_or-tab f (suc k) i z h = go (dec_lt i k) (get_or-tab f k i z)
    where
      go : Dec (i < k) → (i < k → get_or (tabulate f k) i z ≡ f i) → get_or (tabulate f k ++ (f k ∷ [])) i z ≡ f i
      go (yes g) r = get_or-append (tabulate f k) (f k ∷ []) z i (rw (length-tab f k) g) ∙ r g
      go (no g) r =
          let e : i ≡ k = omega arith in
          rw e (get_or_at (tabulate f k) (f k) [] z k (length-tab f k))

  pub tab_cong : (f g : ℕ → A) (k : ℕ) → ((i : ℕ) → i < k → f i ≡ g i) → tabulate f k ≡ tabulate g k
  unfolding tabulate
  tab_cong f g zero h = refl
  tab_cong f g (suc k) h = rw (tab_cong f g k (λ i l. h i (omega arith)), h k (omega arith))

  pub tab-get_or : (w : List A) (k : ℕ) (z : A) → k ≤ length w → tabulate (λ i. get_or w i z) k ≡ take k w
  unfolding tabulate
  tab-get_or w zero z h = refl
  tab-get_or w (suc k) z h = rw (tab-get_or w k z (omega arith), take-suc w k z h)

  -- a loop that starts to fill at p, where what is before p is right already
  pub start-at : (f : ℕ → A) (w : List A) (p : ℕ) (z : A) → p ≤ length w → ((i : ℕ) → i < p → f i ≡ get_or w i z) → Filled f w p w
  start-at f w p z h e =
      record {
        upto = h;
        long = refl;
        is = sym (take-append-drop p w) ∙ ap (λ l. l ++ drop p w) (sym (tab_cong f (λ i. get_or w i z) p e ∙ tab-get_or w p z h));
      }

  -- what is not yet stored is as it was, at any place from i on
  pub still_after : {f : ℕ → A} {w v : List A} {i : ℕ} → Filled f w i v → (j : ℕ) → i ≤ j → (z : A) → get_or v j z ≡ get_or w j z
  still_after {f} {w} {v} {i} e j h z =
      let p : j ≡ length (tabulate f i) + (j - i) = omega (arith, length-tab f i) in
      let q : i + (j - i) ≡ j = omega arith in
      rw e.is (ap (λ n. get_or (filled f w i) n z) p ∙ get_or-append-add (tabulate f i) (drop i w) (j - i) z ∙ get_or-drop i w (j - i) z ∙ ap (λ n. get_or w n z) q)

  -- a loop that copies b from the front: a turn, and the end
  pub copied_more : (b w : List A) (i : ℕ) (x : A) → i < length w → i < length b → x ≡ get_or b i x
      → set (take i b ++ drop i w) i x ≡ take (i + 1) b ++ drop (i + 1) w
  copied_more b w i x h g e =
      rw (add-one i, drop-cons w i x h, take-suc b i x g, ← e)
      (set_at (take i b) (get_or w i x) (drop (suc i) w) x i (length-take-le i b (omega arith)) ∙ sym (append_snoc (take i b) x (drop (suc i) w)))

  pub copied_all : (b w : List A) (i : ℕ) → length w ≤ i → length b ≤ i → take i b ++ drop i w ≡ b
  copied_all b w i h g = rw (drop_of_length-le w h, take_all i b g) (append-nil b)

  -- a loop that fills with the elements of b has copied b
  pub copied : {b w v : List A} {i : ℕ} (z : A) → Filled (λ k. get_or b k z) w i v → length w ≤ i → length w ≡ length b → v ≡ b
  copied {b} {w} {v} {i} z e h l = whole e h ∙ rw l (tab-get_or b (length b) z (omega arith) ∙ take_all (length b) b (omega arith))
