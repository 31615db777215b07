-- A test of every item of a chain, over the numbers below k and over a list with its places, is the test of every number below.
use Prim.Native.Nat.{ℕ, zero, suc, ◌+◌}
use mathlib.Core.Path.{◌≡◌, refl, ap, ◌∙◌}
use mathlib.Core.Bool.{Bool, true, false, ◌&&◌}
use mathlib.Core.List.{List, [], ◌∷◌}
use native.Mathlib.Omega.{arith}
use lib.ListN.{length, get_or}
use Rattle.std.specs.List.{list_all, range_with_len, enumerate_from}
use Rattle.seq.specs.Keep.{all_to}
use Rattle.seq.proofs.Every.{every_same}

both-assoc : (a b c : Bool) → ((a && b) && c) ≡ (a && (b && c))
both-assoc true b c = refl
both-assoc false b c = refl

both-true : (a : Bool) → a ≡ (a && true)
both-true true = refl
both-true false = refl

-- the first of them apart
first_apart : (f : ℕ → Bool) (k : ℕ) → all_to f (suc k) ≡ (f 0 && all_to (λ j. f (suc j)) k)
unfolding all_to
first_apart f zero = both-true (f 0)
first_apart f (suc k) = ap (λ (t : Bool). t && f (suc k)) (first_apart f k) ∙ both-assoc (f 0) (all_to (λ j. f (suc j)) k) (f (suc k))

number-from : (f : ℕ → Bool) (a k : ℕ) → list_all f (range_with_len a k) ≡ all_to (λ j. f (a + j)) k
unfolding all_to
number-from f a zero = refl
number-from f a (suc k) =
    let p : a + 0 ≡ a = omega arith in
    rw (number-from f (a + 1) k, first_apart (λ j. f (a + j)) k, p)
    (ap (λ (t : Bool). f a && t)
    (every_same (λ j. f (a + 1 + j)) (λ j. f (a + suc j)) k (λ j h. let q : a + 1 + j ≡ a + suc j = omega arith in ap f q)))

place-from : (f : ℕ → ℕ → Bool) (a : ℕ) (xs : List ℕ)
    → list_all (λ (p : ℕ × ℕ). f p.0 p.1) (enumerate_from a xs) ≡ all_to (λ j. f (a + j) (get_or xs j 0)) (length xs)
unfolding all_to
place-from f a [] = refl
place-from f a (x ∷ xs) =
    let p : a + 0 ≡ a = omega arith in
    rw (place-from f (a + 1) xs, first_apart (λ j. f (a + j) (get_or (x ∷ xs) j 0)) (length xs), p)
    (ap (λ (t : Bool). f a x && t)
    (every_same (λ j. f (a + 1 + j) (get_or xs j 0)) (λ j. f (a + suc j) (get_or xs j 0)) (length xs)
    (λ j h. let q : a + 1 + j ≡ a + suc j = omega arith in ap (λ (n : ℕ). f n (get_or xs j 0)) q)))

pub every_number : (f : ℕ → Bool) (k : ℕ) → list_all f (range_with_len 0 k) ≡ all_to f k
every_number f k = number-from f 0 k ∙ every_same (λ j. f (0 + j)) f k (λ j h. let q : 0 + j ≡ j = omega arith in ap f q)

pub every_place : (f : ℕ → ℕ → Bool) (xs : List ℕ)
    → list_all (λ (p : ℕ × ℕ). f p.0 p.1) (enumerate_from 0 xs) ≡ all_to (λ j. f j (get_or xs j 0)) (length xs)
every_place f xs =
    place-from f 0 xs
    ∙ every_same (λ j. f (0 + j) (get_or xs j 0)) (λ j. f j (get_or xs j 0)) (length xs)
    (λ j h. let q : 0 + j ≡ j = omega arith in ap (λ (n : ℕ). f n (get_or xs j 0)) q)
