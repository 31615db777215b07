-- How the walk that the scratch holds changes: a write from a place on is read there, and what stands before it is as it was.
use Prim.Native.Nat.{ℕ, ◌+◌, ◌*◌, ◌-◌, ◌≤◌}
use mathlib.Core.Path.{◌≡◌, sym, ap, ◌∙◌}
use mathlib.Core.List.{List, ◌++◌, append-nil}
use native.Mathlib.Omega.{arith}
use lib.ListN.{length, take, drop, length-drop, drop_of_length-le, take-append-drop}
use lib.Seq.{take_all, drop_at, length-take-le, drop-drop, take-append-le, drop-append-le}
use lib.Ieee.{Float}
use Rattle.seq.specs.Lists.{part, placed}
use Rattle.seq.proofs.Filling.{tab_cong, room}
use Rattle.seq.proofs.Parts.{part-below}
use Rattle.basis.specs.Held.{vectors_in}
use Rattle.blocking.specs.Freeze.{Walk}
use Rattle.draw.specs.declared.SplitMix64.{SplitMix64}

-- the rest of a list, as it is lent from a place on
pub rest_is : (base : ℕ) (xs : List Float) → part base (length xs - base) xs ≡ drop base xs
rest_is base xs = take_all (length xs - base) (drop base xs) (simp length-drop (omega arith))

-- it is long enough
pub rest_room : (base k : ℕ) (xs : List Float) → base + k ≤ length xs → k ≤ length (part base (length xs - base) xs)
rest_room base k xs h = rw rest_is (simp length-drop (omega arith))

module _ (base : ℕ) (xs ys : List Float) (within : base ≤ length xs) where
  abbrev pub back : List Float
  back = placed base (length xs - base) xs ys

  -- what comes back is read from that place on
  pub back-rest : drop base back ≡ ys
  back-rest =
      drop_at (take base xs) (ys ++ drop (length xs - base) (drop base xs)) base (length-take-le base xs within)
      ∙ ap (λ (l : List Float). ys ++ l) (drop_of_length-le (drop base xs) {i = length xs - base} (simp length-drop (omega arith)))
      ∙ append-nil ys

  -- and what stands before it is as it was
  pub back_front : (m : ℕ) → m ≤ base → part 0 m back ≡ part 0 m xs
  back_front m h = part-below 0 m base (length xs - base) xs ys (omega arith) within

-- ---- parts of parts

module _ {A : Type 0} where
  -- what stands behind a part is as it was
  pub drop-placed : (a k : ℕ) (xs ys : List A) → a + k ≤ length xs → length ys ≡ k → drop (a + k) (placed a k xs ys) ≡ drop (a + k) xs
  drop-placed a k xs ys h e =
      sym (drop-drop k a (placed a k xs ys))
      ∙ ap (drop k) (drop_at (take a xs) (ys ++ drop k (drop a xs)) a (length-take-le a xs (omega arith)))
      ∙ drop_at ys (drop k (drop a xs)) k e
      ∙ drop-drop k a xs

  -- a part that lies in the first c elements
  pub part-take : (b m c : ℕ) (xs : List A) → b + m ≤ c → c ≤ length xs → part b m (take c xs) ≡ part b m xs
  part-take b m c xs h g =
      let l : length (take c xs) ≡ c = length-take-le c xs g in
      sym
      (ap (part b m) (sym (take-append-drop c xs))
      ∙ ap (take m) (drop-append-le b (take c xs) (drop c xs) (omega arith))
      ∙ take-append-le m (drop b (take c xs)) (drop c xs) (simp length-drop (omega arith)))

  -- what stands from a place on decides what stands from a later one on
  pub drop-later : (a b : ℕ) (xs ys : List A) → a ≤ b → drop a ys ≡ drop a xs → drop b ys ≡ drop b xs
  drop-later a b xs ys h e =
      let s : a + (b - a) ≡ b = omega arith in
      ap (λ (n : ℕ). drop n ys) (sym s) ∙ sym (drop-drop (b - a) a ys) ∙ ap (drop (b - a)) e ∙ drop-drop (b - a) a xs ∙ ap (λ (n : ℕ). drop n xs) s

-- the vectors of a basis do not see what stands after them
pub vectors_take : (l count c : ℕ) (xs : List Float) → count * l ≤ c → c ≤ length xs → vectors_in l count (take c xs) ≡ vectors_in l count xs
vectors_take l count c xs h g =
    tab_cong (λ k. part (k * l) l (take c xs)) (λ k. part (k * l) l xs) count (λ k e. part-take (k * l) l c xs (omega (arith, room k count l e)) g)

-- two walks are equal where their parts are
pub walk_path : {x x' ax ax' : List Float} {free free' blocked blocked' : List ℕ} {frozen frozen' : ℕ} {rng rng' : SplitMix64}
    {basis basis' : List (List Float)}
    → x ≡ x' → free ≡ free' → frozen ≡ frozen' → ax ≡ ax' → blocked ≡ blocked' → basis ≡ basis' → rng ≡ rng'
    → ◌≡◌ {A = Walk} (record { x = x; free = free; frozen = frozen; ax = ax; blocked = blocked; basis = basis; rng = rng })
    (record { x = x'; free = free'; frozen = frozen'; ax = ax'; blocked = blocked'; basis = basis'; rng = rng' })
walk_path a b c d e f g = λ i. record { x = a i; free = b i; frozen = c i; ax = d i; blocked = e i; basis = f i; rng = g i }
